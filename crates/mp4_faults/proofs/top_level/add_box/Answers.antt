use Rattle.std.proofs.Common.{refl, ◌∙◌}
use Rattle.mp4_codec.specs.Cause.{cause_of}
use Rattle.mp4_faults.specs.Inner.{inner, end_of}
use Rattle.mp4_faults.proofs.Stepping.{tells-inside, top-fault, top-box}
use Rattle.mp4_faults.proofs.top_level.add_box.Goals as goal

pub returns-in-Some : goal.returns-in-Some
returns-in-Some c =
    let b = inner c.args.top in
    let refuses = rw c.in-Some.is at c.in_ok-error.ensures in
    λ size bytes t. tells-inside size bytes b.place (end_of b) c.args.seen.now c.add_content.new.seen
    c.fault_within.result c.add_content.new.seen.names b (cause_of c.in-Some.error) c.fault_within.ensures
    (λ f i. top-fault size bytes b t c.args.seen.now c.add_content.new.seen (cause_of c.in-Some.error) f refuses i)

pub returns : goal.returns
returns c =
    let b = inner c.args.top in
    let told = rw c.in_default.is at c.in_ok-error.ensures in
    λ size bytes t. (
      (b.name, record { place = b.place; content = told.0 }),
      top-box size bytes b t told.0 told.1,
      record {
        names = c.in_ok-push.ensures.ok ∙ rw told.2.names refl;
        ftyp = told.2.ftyp;
        moov = told.2.moov;
        moov_place = told.2.moov_place;
        moofs = told.2.moofs;
        moof_places = told.2.moof_places;
      },
    )
