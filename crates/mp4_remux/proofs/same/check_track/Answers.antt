use Rattle.std.proofs.Common.{◌≡◌, ◌∙◌, Err, ap, refl, sym, subst}
use Rattle.std.proofs.lemmas.Result.{err_from_is_err_and}
use Rattle.mp4_media.specs.FileBoxes.{opened_movie}
use Rattle.mp4_remux.specs.Headers.{IsShownUntil}
use Rattle.mp4_remux.specs.Reads.{count_of}
use Rattle.mp4_remux.specs.Refused.{KeepsSamples}
use Rattle.mp4_remux.specs.declared.layout_error.LayoutError.{LayoutError}
use Rattle.mp4_remux.proofs.Refusing.{other_too}
use Rattle.mp4_remux.proofs.Showing.{shown_once}
use Rattle.mp4_remux.proofs.same.check_track.Goals as goal

pub returns-then-from-same-clause-media : goal.returns-then-from-same-clause-media
returns-then-from-same-clause-media c = λ is.
    subst (IsShownUntil (opened_movie c.args.after.now) c.args.trak.now.tkhd.track_id)
    (sym c.if-from-same.true ∙ c.from.ensures) c.in_ok-same.ensures.end

pub returns-in_err-same-clause-other : goal.returns-in_err-same-clause-other
returns-in_err-same-clause-other c =
    let p = err_from_is_err_and c.from_residual.result c.from_residual.ensures.1 in
    let l = c.args.layout.now in
    let id = c.args.trak.now.tkhd.track_id in
    let before = opened_movie c.args.before.now in
    let after = opened_movie c.args.after.now in
    rw (p.1 ∙ ap (λ (e : LayoutError). Err e) p.2)
    (other_too id l.pieces.items l.source_len l.len before after (count_of after id ≡ count_of before id → ⊥)
    (KeepsSamples c.args.made before after c.args.trak.now → ⊥) (λ no keeps. no keeps.0) _ c.in_err-same.ensures.other)

pub returns-clause-other : goal.returns-clause-other
returns-clause-other c = λ keeps.
    let tables = c.if-not-has_tables.ensures.tables refl in
    c.if-from-same.false
    (c.from.ensures ∙ shown_once (opened_movie c.args.after.now) c.args.trak.now.tkhd.track_id
    c.args.trak.now.mdia.mdhd.duration c.in_ok-same.same.end (keeps.1 tables) c.in_ok-same.ensures.end)
