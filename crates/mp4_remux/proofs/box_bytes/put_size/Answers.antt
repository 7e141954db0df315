use Rattle.std.proofs.Common.{◌≡◌, ◌∙◌, ◌++◌, ◌+◌, ◌<◌, ◌^◌, length, take, drop, arith, ap, List, ℕ}
use Rattle.std.proofs.lemmas.List.{length-append}
use Rattle.byteorder.specs.Endian.{big_bytes}
use Rattle.mp4_remux.proofs.Sizing.{long_is, long_room, short_is, short_room, of_16, of_8}
use Rattle.mp4_remux.proofs.box_bytes.put_size.Goals.{then-bytes-ge4, else-bytes-ge4}
use Rattle.mp4_remux.proofs.box_bytes.put_size.Goals as goal

pub returns-then-bytes-ge16-clause-sized : goal.returns-then-bytes-ge16-clause-sized
returns-then-bytes-ge16-clause-sized c = λ head payload header is.
    let long : length c.args.bytes.now ≡ length head + length payload =
    ap (λ (xs : List ℕ). length xs) is ∙ length-append head payload in
    let fits : length c.args.bytes.now < 2 ^ 64 = omega arith in
    let header : length head ≡ 16 = of_16 (length head) c.args.header header c.if-header-ge16.true in (
      long_room head (length payload) header (omega (arith, fits, long)),
      ap (λ (xs : List ℕ). take 8 c.args.bytes.now ++ (xs ++ drop 8 (drop 8 c.args.bytes.now)))
          (c.copy_from_slice.ensures.after ∙ c.to_be_bytes.ensures)
          ∙ long_is head payload c.args.bytes.now is header,
    )

pub returns-clause-sized : goal.returns-clause-sized
returns-clause-sized c = λ head payload header is.
    let long : length c.args.bytes.now ≡ length head + length payload =
    ap (λ (xs : List ℕ). length xs) is ∙ length-append head payload in
    let header : length head ≡ 8 = of_8 (length head) (length c.args.bytes.now) c.args.header header
    (omega (arith, long)) c.else-header-ge16.either in
    elim c.if-bytes-ge4.branch [
      | then-bytes-ge4 w ↦ (
        short_room head (length payload) header (omega (arith, c.in-Ok.ensures.0, long)),
        w.bytes-is
            ∙ ap (λ (xs : List ℕ). xs ++ drop 4 c.args.bytes.now)
            (w.copy_from_slice-then-bytes-ge4.ensures.after ∙ w.to_be_bytes-then-bytes-ge4.ensures
            ∙ ap (λ (n : ℕ). big_bytes 4 n) c.in-Ok.ensures.1)
            ∙ short_is head payload c.args.bytes.now is header,
      )
      | else-bytes-ge4 w ↦ absurd (omega (arith, long, header, w.if-bytes-ge4.false))
    ]
