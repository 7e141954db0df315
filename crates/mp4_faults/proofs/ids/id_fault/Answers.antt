use Rattle.mp4_faults.specs.Ids.{known_in, has_id}
use Rattle.mp4_faults.proofs.FirstOf.{zero-told, unknown-told, none-told}
use Rattle.mp4_faults.proofs.KnownIds.{first-unknown, none-unknown}
use Rattle.mp4_faults.proofs.ids.id_fault.Goals as goal

pub returns-in-Some-clause-first : goal.returns-in-Some-clause-first
returns-in-Some-clause-first c =
    let found = rw c.as_slice.ensures at c.in-Some.ensures.first in
    (zero-told c.args.moov.now c.args.moofs.now c.in-Some.index found.0 found.1, found)

pub returns-in-Some-unknown_id-clause-first : goal.returns-in-Some-unknown_id-clause-first
returns-in-Some-unknown_id-clause-first c =
    let moov = c.args.moov.now in
    let moofs = c.args.moofs.now in
    let wrong = c.in-Some-unknown_id in
    let zero = rw c.as_slice.ensures at c.in_default.ensures.first in
    let same = rw c.as_slice-2.ensures at c.in_ok-ids.ensures in
    let found = first-unknown (has_id c.in_ok-ids.ids) (known_in moov.traks) same moofs wrong.moof wrong.traf wrong.id
    wrong.ensures.first in
    (unknown-told moov moofs wrong.moof wrong.traf wrong.id zero found, (zero, found))

pub returns-clause-first : goal.returns-clause-first
returns-clause-first c =
    let moov = c.args.moov.now in
    let moofs = c.args.moofs.now in
    let zero = rw c.as_slice.ensures at c.in_default.ensures.first in
    let same = rw c.as_slice-2.ensures at c.in_ok-ids.ensures in
    none-told moov moofs zero
    (none-unknown (has_id c.in_ok-ids.ids) (known_in moov.traks) same moofs c.in-None.ensures.first)
