use Rattle.std.proofs.Common.{◌≡◌, ◌+◌, ◌-◌, ◌∙◌, ℕ, List, [], length, sym, ap, subst, Option, arith}
use Rattle.mp4_source.specs.Sink.{IsAppended}
use Rattle.mp4_mux.specs.Media.{KeptMedia}
use Rattle.mp4_mux.specs.Parts.{bytes_at_start}
use Rattle.mp4_mux.specs.Writing.{started, with_file_type}
use Rattle.mp4_media.proofs.KeptMovies.{hold-begun, some_front}
use Rattle.mp4_media.proofs.file_writer.Mp4FileWriter.start_with.Goals as goal

pub invariant_of-result : goal.invariant_of-result
invariant_of-result g c = λ _.
    let config = c.args.config in
    let before = g.S.ByteSink.contents c.args.sink in
    let found = some_front before (g.S.ByteSink.len c.args.sink) (g.met.S.ByteSink.counted c.args.sink) in
    let front = found.0 in
    let beginning = c.deref.result.now in
    let items = c.new-beginning.ensures.items in
    let bytes : beginning ≡ bytes_at_start [] config =
    c.deref.ensures.value ∙ c.in_ok-header.ensures.bytes ∙ ap (λ (xs : List ℕ). bytes_at_start xs config) items in
    let header = c.in_ok-header.ensures.place ∙ ap (λ (xs : List ℕ). length (with_file_type xs config)) items in
    let len : c.new.result.len ≡ length front + length beginning =
    ap (λ (m : KeptMedia). m.len) c.new.ensures ∙ c.in_ok-append.ensures.all
    ∙ ap (λ (n : ℕ). n + length beginning) found.1.0 in
    let appended : IsAppended before c.new.result.contents beginning =
    subst (λ (x : Option (List ℕ)). IsAppended before x beginning)
    (sym (ap (λ (m : KeptMedia). m.contents) c.new.ensures)) c.in_ok-append.ensures.ok in
    let place : c.len.result - (c.len-2.result - c.in_ok-header.header)
    ≡ c.new.result.len - (length beginning - c.in_ok-header.header) =
    omega (
      arith,
      c.len.ensures,
      ap (λ (m : KeptMedia). m.len) c.new.ensures,
      c.len-2.ensures,
      c.begin.new.buffer.ok.0,
      ap length c.deref.ensures.value,
    ) in (
      started front config,
      hold-begun front config c.in_range.ensures c.requires c.len-front.result _ c.in_ok-header.header beginning before
          c.new.result (c.len-front.ensures ∙ found.1.0) bytes header found.1.1 appended len place
          (ap (λ (m : KeptMedia). m.tracks) c.new.ensures) (ap (λ (m : KeptMedia). m.written) c.new.ensures),
    )

pub returns-clause-ok : goal.returns-clause-ok
returns-clause-ok g c = λ front fits known.
    let config = c.args.config in
    let before = g.S.ByteSink.contents c.args.sink in
    let beginning = c.deref.result.now in
    let items = c.new-beginning.ensures.items in
    let bytes : beginning ≡ bytes_at_start [] config =
    c.deref.ensures.value ∙ c.in_ok-header.ensures.bytes ∙ ap (λ (xs : List ℕ). bytes_at_start xs config) items in
    let header = c.in_ok-header.ensures.place ∙ ap (λ (xs : List ℕ). length (with_file_type xs config)) items in
    let len : c.new.result.len ≡ length front + length beginning =
    ap (λ (m : KeptMedia). m.len) c.new.ensures ∙ c.in_ok-append.ensures.all
    ∙ ap (λ (n : ℕ). n + length beginning) fits in
    let appended : IsAppended before c.new.result.contents beginning =
    subst (λ (x : Option (List ℕ)). IsAppended before x beginning)
    (sym (ap (λ (m : KeptMedia). m.contents) c.new.ensures)) c.in_ok-append.ensures.ok in
    let place : c.len.result - (c.len-2.result - c.in_ok-header.header)
    ≡ c.new.result.len - (length beginning - c.in_ok-header.header) =
    omega (
      arith,
      c.len.ensures,
      ap (λ (m : KeptMedia). m.len) c.new.ensures,
      c.len-2.ensures,
      c.begin.new.buffer.ok.0,
      ap length c.deref.ensures.value,
    ) in
    hold-begun front config c.in_range.ensures c.requires c.len-front.result _ c.in_ok-header.header beginning before
    c.new.result (c.len-front.ensures ∙ fits) bytes header known appended len place
    (ap (λ (m : KeptMedia). m.tracks) c.new.ensures) (ap (λ (m : KeptMedia). m.written) c.new.ensures)
