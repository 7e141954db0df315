use Rattle.std.proofs.Common.{refl}
use Rattle.std.proofs.lemmas.Result.{err_from_is_err_and}
use Rattle.mp4_media.proofs.FoundBoxes.{all_known, of_known}
use Rattle.mp4_faults.proofs.IdPlaces.{track-has, track-fault, traf-has, traf-fault}
use Rattle.mp4_faults.proofs.Lacking.{lacks-ftyp, lacks-moov}
use Rattle.mp4_faults.proofs.first_fault.fault_at_end.Goals as goal

pub returns-in_default : goal.returns-in_default
returns-in_default g c =
    all_known (g.S.ByteSource.contents c.args.reader.now.source) _ (λ bytes start boxes are ends is.
    lacks-ftyp bytes boxes c.args.seen.now is c.args.end ends c.in_ok-lacking.field-0 c.in_default.is
    c.in_ok-lacking.ensures)

pub returns-in_default-moov : goal.returns-in_default-moov
returns-in_default-moov g c =
    all_known (g.S.ByteSource.contents c.args.reader.now.source) _ (λ bytes start boxes are ends is.
    lacks-moov bytes boxes c.args.seen.now is c.args.end ends c.in_ok-lacking-2.field-0 c.in-Some.field-0 c.in-Some.is
    c.in_default-moov.is c.in_ok-lacking-2.ensures)

pub returns-in_err-wrong_id-in-Some-Track : goal.returns-in_err-wrong_id-in-Some-Track
returns-in_err-wrong_id-in-Some-Track g c =
    let reader = c.args.reader.now in
    let end = c.args.end in
    let wrong = c.in-Some-Track in
    let p = err_from_is_err_and c.from_residual-in_err-wrong_id-in-Some-Track.result
    c.from_residual-in_err-wrong_id-in-Some-Track.ensures.1 in
    let tells = rw (c.as_slice.ensures, wrong.is, wrong.field-0-is) at c.in_ok-id_fault.ensures.first in
    of_known (g.S.ByteSource.contents reader.source) _ _ c.in_err-wrong_id-in-Some-Track.ensures
    (λ bytes told start boxes are ends is. rw (p.1, p.2) (told
    (track-has end.size bytes start end.place boxes are c.args.seen.now is c.in-Some.field-0 c.in-Some.is
    c.in-Some-moov.moov c.in-Some-moov.is wrong.index tells c.track_place.result c.track_place.ensures)))

pub returns-in_err-wrong_id-in-Some-Fragment : goal.returns-in_err-wrong_id-in-Some-Fragment
returns-in_err-wrong_id-in-Some-Fragment g c =
    let reader = c.args.reader.now in
    let end = c.args.end in
    let wrong = c.in-Some-Fragment in
    let p = err_from_is_err_and c.from_residual-in_err-wrong_id-in-Some-Fragment.result
    c.from_residual-in_err-wrong_id-in-Some-Fragment.ensures.1 in
    let tells = rw (c.as_slice.ensures, wrong.is, wrong.field-0-is) at c.in_ok-id_fault.ensures.first in
    of_known (g.S.ByteSource.contents reader.source) _ _ c.in_err-wrong_id-in-Some-Fragment.ensures
    (λ bytes told start boxes are ends is. rw (p.1, p.2) (told
    (traf-has end.size bytes start end.place boxes are c.args.seen.now is c.in-Some.field-0 c.in-Some.is
    c.in-Some-moov.moov c.in-Some-moov.is wrong.moof wrong.traf wrong.id tells c.fragment_place.result
    c.fragment_place.ensures)))

pub returns-in_ok-wrong_id-in-Some-Track : goal.returns-in_ok-wrong_id-in-Some-Track
returns-in_ok-wrong_id-in-Some-Track g c =
    let reader = c.args.reader.now in
    let end = c.args.end in
    let wrong = c.in-Some-Track in
    let tells = rw (c.as_slice.ensures, wrong.is, wrong.field-0-is) at c.in_ok-id_fault.ensures.first in
    of_known (g.S.ByteSource.contents reader.source) _ _ c.in_ok-wrong_id-in-Some-Track.ensures
    (λ bytes told start boxes are ends is.
    let has = track-has end.size bytes start end.place boxes are c.args.seen.now is c.in-Some.field-0 c.in-Some.is
    c.in-Some-moov.moov c.in-Some-moov.is wrong.index tells c.track_place.result c.track_place.ensures in
    track-fault end.size bytes start end.place boxes are c.args.seen.now is c.in-Some.field-0 c.in-Some.is
    c.in-Some-moov.moov c.in-Some-moov.is wrong.index tells c.track_place.result c.track_place.ensures
    c.in_ok-wrong_id-in-Some-Track.field-0 _ refl (told has))

pub returns-in_ok-wrong_id-in-Some-Fragment : goal.returns-in_ok-wrong_id-in-Some-Fragment
returns-in_ok-wrong_id-in-Some-Fragment g c =
    let reader = c.args.reader.now in
    let end = c.args.end in
    let wrong = c.in-Some-Fragment in
    let tells = rw (c.as_slice.ensures, wrong.is, wrong.field-0-is) at c.in_ok-id_fault.ensures.first in
    of_known (g.S.ByteSource.contents reader.source) _ _ c.in_ok-wrong_id-in-Some-Fragment.ensures
    (λ bytes told start boxes are ends is.
    let has = traf-has end.size bytes start end.place boxes are c.args.seen.now is c.in-Some.field-0 c.in-Some.is
    c.in-Some-moov.moov c.in-Some-moov.is wrong.moof wrong.traf wrong.id tells c.fragment_place.result
    c.fragment_place.ensures in
    traf-fault end.size bytes start end.place boxes are c.args.seen.now is c.in-Some.field-0 c.in-Some.is
    c.in-Some-moov.moov c.in-Some-moov.is wrong.moof wrong.traf wrong.id tells c.fragment_place.result
    c.fragment_place.ensures c.in_ok-wrong_id-in-Some-Fragment.field-0 _ refl (told has))
