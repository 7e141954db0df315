use Rattle.mp4_media.proofs.BaseDataOffsetsByTrack.{end_anywhere, end_elsewhere}
use Rattle.mp4_media.proofs.fragments.end_for_next.Goals as goal

pub returns-in_default : goal.returns-in_default
returns-in_default c = λ defaults moof. end_anywhere defaults moof _ _ c.args.next.now c.in_default.ensures.value

pub returns-else-counts_from_data_before : goal.returns-else-counts_from_data_before
returns-else-counts_from_data_before c = λ defaults moof.
    end_elsewhere defaults moof _ _ c.args.next.now c.in-Some.next.now c.in-Some.ensures.value
    (rw c.counts_from_data_before.ensures at c.if-counts_from_data_before.false)
