use Rattle.std.proofs.Common.{◌∙◌, ap, pos}
use Rattle.std.specs.List.{list_all}
use Rattle.std.specs.Ordering.{int_eq}
use Rattle.std.proofs.lemmas.List.Folds.{list_all-map}
use Rattle.mp4_mux.proofs.tables.are_in_order.Goals as goal

pub returns : goal.returns
returns c =
    c.all_equal.ensures
    ∙ ap (list_all (λ x. int_eq x (pos 0))) c.rendering_offsets.ensures
    ∙ list_all-map (λ x. int_eq x (pos 0)) (λ s. s.rendering_offset) c.args.samples.now
