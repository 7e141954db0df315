-- What is written by a layout whose samples are as before.
use Rattle.std.proofs.Common.{◌≡◌, ◌∙◌, ℕ, List, length, Option, None, Some, Result, Ok, Err, option_map, IfSome, OnOk}
use Rattle.std.proofs.Common.{[], refl, sym, subst}
use Rattle.std.specs.Prelude.{slice_get}
use Rattle.mp4_boxes.specs.declared.trak.TrakBox.{TrakBox}
use Rattle.mp4_codec.specs.Cursor.{here}
use Rattle.mp4_source.specs.Answers.{IsLength}
use Rattle.mp4_source.specs.Sink.{IsAppended}
use Rattle.mp4_media.specs.declared.movie.Movie.{Movie}
use Rattle.mp4_media.specs.FileBoxes.{opened_movie}
use Rattle.mp4_media.specs.FileGrammar.{IsFile}
use Rattle.mp4_remux.specs.declared.error.RemuxError.{RemuxError}
use Rattle.mp4_remux.specs.declared.layout.Layout.{Layout}
use Rattle.mp4_remux.specs.declared.made.Made.{Made}
use Rattle.mp4_remux.specs.Headers.{DurationsOf, KeepsHeaders}
use Rattle.mp4_remux.specs.Remuxed.{WritesRemuxed, ids_of}
use Rattle.mp4_remux.specs.Same.{IsTrackAsBefore}
use Rattle.mp4_remux.specs.Splice.{spliced}
use Rattle.mp4_remux.proofs.Pieces.{counted}

-- where a call is Ok, what follows of what it ensures
pub on_ok : {A B : Type 0} (r : Result (Unit {0}) RemuxError) → OnOk r A → (A → B) → OnOk r B
on_ok (Ok u) a f = f a
on_ok (Err e) a f = tt

-- the bytes of a splice are those of its source as another layout with the same bytes and pieces says
pub same_splice : {T : Type 0} (contents : T → Option (List ℕ)) (s t : T) (l m n : Layout) → s ≡ t → l ≡ m
    → m.made.items ≡ n.made.items → m.pieces.items ≡ n.pieces.items
    → option_map (λ xs. spliced xs l.made.items l.pieces.items) (contents s)
    ≡ option_map (λ xs. spliced xs n.made.items n.pieces.items) (contents t)
same_splice contents s t l m n one two three four = rw (one, two, three, four) refl

-- a splice has as many bytes as its layout says
pub measured_after : (known known_after : Option (List ℕ)) (l : Layout) (len : ℕ) → IsLength known l.source_len
    → known_after ≡ option_map (λ xs. spliced xs l.made.items l.pieces.items) known → len ≡ l.len
    → IsLength known_after len
measured_after known known_after l len measured is whole =
    rw (is, whole) (counted known l.made.items l.pieces.items l.source_len l.len measured l.follow)

pub writes_remuxed : (known known_after had has : Option (List ℕ)) (l : Layout) (before after : Movie) (len : ℕ)
    (made : Made) (kept : List ℕ) → IsLength known l.source_len
    → IfSome known (λ xs. IsFile (length xs) (here xs 0) (opened_movie before))
    → known_after ≡ option_map (λ xs. spliced xs l.made.items l.pieces.items) known → len ≡ l.len
    → IfSome known_after (λ ys. IsFile len (here ys 0) (opened_movie after))
    → ids_of after.moov ≡ kept → after.moofs ≡ []
    → ((t : TrakBox) (i : ℕ) → slice_get after.moov.traks i ≡ Some t
    → IsTrackAsBefore l.source_len l.made.items l.pieces.items (opened_movie before) (opened_movie after)
    t.tkhd.track_id)
    → KeepsHeaders (opened_movie before) (opened_movie after) → DurationsOf made (opened_movie after)
    → IfSome known_after (λ ys. IsAppended had has ys)
    → IfSome known (λ xs. WritesRemuxed xs (spliced xs l.made.items l.pieces.items) (opened_movie before) made kept had
    has)
writes_remuxed None known_after had has l before after len made kept measured opens is whole opens_after ids none tracks
    headers durations written = tt
writes_remuxed (Some xs) known_after had has l before after len made kept measured opens is whole opens_after ids none
    tracks headers durations written =
    let ys = spliced xs l.made.items l.pieces.items in
    let long : len ≡ length ys =
    whole ∙ counted (Some xs) l.made.items l.pieces.items l.source_len l.len measured l.follow in
    let file = subst (λ (k : Option (List ℕ)). IfSome k (λ zs. IsFile len (here zs 0) (opened_movie after))) is
    opens_after in
    let appended = subst (λ (k : Option (List ℕ)). IfSome k (λ zs. IsAppended had has zs)) is written in (
      appended,
      (
        opened_movie after,
        (
          record {
            opens = opens;
            opens_after = subst (λ n. IsFile n (here ys 0) (opened_movie after)) long file;
            ids = ids;
            unfragmented = none;
            headers = headers;
            tracks = λ t i there. tracks t i there xs (sym measured);
          },
          durations,
        ),
      ),
    )
