use Rattle.mp4_codec.specs.PutLaws.{◌then◌}
use Rattle.mp4_meta.specs.Meta.{meta_payload}
use Rattle.mp4_meta.proofs.meta.MetaBoxWriteBox.put_payload.Goals as goal

pub returns-in_ok-put_optional-in-Mdir : goal.returns-in_ok-put_optional-in-Mdir
unfolding meta_payload
returns-in_ok-put_optional-in-Mdir c =
    let handler = rw c.default_mdir.ensures at c.in_ok-put_box-in-Mdir.ensures in
    rw c.in-Mdir.is
    (c.in_ok-put_zeros-in-Mdir.ensures then handler then c.in_ok-put_optional-in-Mdir.ensures)

pub returns-in_ok-put_children-in-Unknown : goal.returns-in_ok-put_children-in-Unknown
unfolding meta_payload
returns-in_ok-put_children-in-Unknown c =
    rw c.in-Unknown.is
    (c.in_ok-put_zeros-in-Unknown.ensures then c.in_ok-put_box-in-Unknown.ensures
    then c.in_ok-put_children-in-Unknown.ensures)
