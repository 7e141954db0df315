use Rattle.mp4_codec.specs.PutLaws.{◌then◌}
use Rattle.mp4_leaf.specs.Elst.{elst_entry}
use Rattle.mp4_leaf.proofs.elst.ElstEntryEntry.put.Goals as goal

pub returns : goal.returns
unfolding elst_entry
returns c =
    c.in_ok-put_versioned.ensures
    then c.in_ok-put_versioned-2.ensures
    then c.in_ok-put_u16.ensures
    then c.in_ok-put_u16-2.ensures
