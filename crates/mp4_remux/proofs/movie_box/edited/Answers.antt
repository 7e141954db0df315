use Rattle.std.proofs.Common.{rules}
use Rattle.mp4_remux.specs.Moved.{base_of}
use Rattle.mp4_remux.proofs.EditedOffsets.{edited_is_moved}
use Rattle.mp4_remux.proofs.Moving.{moved_length}
use Rattle.mp4_remux.proofs.movie_box.edited.Goals as goal

pub returns-clause-edited : goal.returns-clause-edited
returns-clause-edited c = search rules

pub returns-clause-moved : goal.returns-clause-moved
returns-clause-moved c = λ to by of_offsets.
    edited_is_moved c.args.edit.now of_offsets to (base_of c.args.moves.now) 0 0 c.args.movie.now
    c.put_boxes.new.out.items (returns-clause-edited c to by)

pub returns-clause-len : goal.returns-clause-len
returns-clause-len c = λ to by of_offsets.
    moved_length to 0 c.args.movie.now c.put_boxes.new.out.items (returns-clause-moved c to by of_offsets)
