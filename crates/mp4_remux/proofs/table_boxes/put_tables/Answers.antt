use Rattle.std.proofs.Common.{◌∙◌, ap, Err, refl}
use Rattle.std.proofs.lemmas.Result.{MatchResult-weaker, err_from_is_err_and}
use Rattle.mp4_codec.specs.declared.error.Error.{Error}
use Rattle.mp4_remux.specs.TrackTables.{tables}
use Rattle.mp4_remux.proofs.TableLaws.{five_fit, of_table}
use Rattle.mp4_remux.proofs.table_boxes.put_tables.Goals as goal

pub returns-in_err-put_stts-clause-refused : goal.returns-in_err-put_stts-clause-refused
returns-in_err-put_stts-clause-refused c =
    let p = err_from_is_err_and c.from_residual.result c.from_residual.ensures.1 in
    rw (p.1 ∙ ap (λ (e : Error). Err e) p.2)
    (of_table (tables c.args.samples.now c.args.chunks.now) 0 _ _ refl c.in_err-put_stts.ensures.refused)

pub returns-in_err-put_ctts-clause-refused : goal.returns-in_err-put_ctts-clause-refused
returns-in_err-put_ctts-clause-refused c =
    let p = err_from_is_err_and c.from_residual-in_err-put_ctts.result c.from_residual-in_err-put_ctts.ensures.1 in
    rw (p.1 ∙ ap (λ (e : Error). Err e) p.2)
    (of_table (tables c.args.samples.now c.args.chunks.now) 1 _ _ refl c.in_err-put_ctts.ensures.refused)

pub returns-in_err-put_stss-clause-refused : goal.returns-in_err-put_stss-clause-refused
returns-in_err-put_stss-clause-refused c =
    let p = err_from_is_err_and c.from_residual-in_err-put_stss.result c.from_residual-in_err-put_stss.ensures.1 in
    rw (p.1 ∙ ap (λ (e : Error). Err e) p.2)
    (of_table (tables c.args.samples.now c.args.chunks.now) 2 _ _ refl c.in_err-put_stss.ensures.refused)

pub returns-in_err-put_stsc-clause-refused : goal.returns-in_err-put_stsc-clause-refused
returns-in_err-put_stsc-clause-refused c =
    let p = err_from_is_err_and c.from_residual-in_err-put_stsc.result c.from_residual-in_err-put_stsc.ensures.1 in
    rw (p.1 ∙ ap (λ (e : Error). Err e) p.2)
    (of_table (tables c.args.samples.now c.args.chunks.now) 3 _ _ refl c.in_err-put_stsc.ensures.refused)

pub returns-clause-refused : goal.returns-clause-refused
returns-clause-refused c =
    MatchResult-weaker c.put_stsz.result c.put_stsz.ensures.refused (λ x u. u)
    (λ e why. of_table (tables c.args.samples.now c.args.chunks.now) 4 _ e refl why)

pub returns-clause-fit : goal.returns-clause-fit
returns-clause-fit c =
    MatchResult-weaker c.put_stsz.result c.put_stsz.ensures.fits
    (λ x room. five_fit _ _ _ _ _ c.in_ok-put_stts.ensures.fits c.in_ok-put_ctts.ensures.fits
    c.in_ok-put_stss.ensures.fits c.in_ok-put_stsc.ensures.fits room) (λ e u. u)
