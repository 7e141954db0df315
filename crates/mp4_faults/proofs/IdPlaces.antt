-- The header that says a wrong id is where it is looked up.
use Rattle.std.proofs.Common.{◌≡◌, ◌<◌, ℕ, ◌+◌, ◌∷◌, Bool, List, length, Option, Some, Result, sym, ap, subst, ◌∙◌}
use Rattle.std.proofs.Common.{arith}
use Rattle.std.specs.Prelude.{unwrap_or}
use Rattle.std.specs.List.{slice_get}
use Rattle.std.proofs.lemmas.List.{length-append}
use Rattle.mp4_codec.specs.declared.box_type.BoxType.TheVariants.{TrakBox as trak, TrafBox as traf, TkhdBox as tkhd}
use Rattle.mp4_codec.specs.declared.box_type.BoxType.TheVariants.{TfhdBox as tfhd}
use Rattle.mp4_codec.specs.declared.box_type.BoxType.TheVariants.{MoovBox as moov, MoofBox as moof}
use Rattle.mp4_codec.specs.declared.box_type.BoxType.{BoxType}
use Rattle.mp4_codec.specs.declared.error.Error.{Error}
use Rattle.mp4_codec.specs.Cause.{Cause, cause_of, invalid_data, trak_not_found}
use Rattle.mp4_codec.specs.Children.{last}
use Rattle.mp4_boxes.specs.declared.moov.MoovBox.{MoovBox}
use Rattle.mp4_boxes.specs.declared.trak.TrakBox.{TrakBox}
use Rattle.mp4_boxes.specs.Moov.{moov_of}
use Rattle.mp4_moof.specs.declared.moof.MoofBox.{MoofBox}
use Rattle.mp4_moof.specs.Moof.{moof_of}
use Rattle.mp4_media.specs.FileBoxes.{moovs_in, moofs_in, moof_places_in}
use Rattle.mp4_media.specs.FileGrammar.{between}
use Rattle.mp4_media.specs.MovieTracks.{zero_id, unknown_id, id_fault}
use Rattle.mp4_faults.specs.declared.wrong_id.IdPlace.{IdPlace}
use Rattle.mp4_leaf.specs.declared.ftyp.FtypBox.{FtypBox}
use Rattle.mp4_faults.specs.declared.fault_place.FaultPlace.{FaultPlace}
use Rattle.mp4_faults.specs.declared.ids.IdFault.{IdFault}
use Rattle.mp4_faults.specs.declared.ids.IdFault.TheVariants.{Track, Fragment}
use Rattle.mp4_faults.specs.declared.top_level.SeenBoxes.{SeenBoxes}
use Rattle.mp4_faults.specs.FirstFault.{IsFaultOfFile, IsPlaceOf, wrong_id}
use Rattle.mp4_faults.specs.Innermost.{count_of}
use Rattle.mp4_faults.specs.Ids.{IsFirstIn, IsFirstUnknown, IsFirstId, TellsIds, cause_of_id, known_in}
use Rattle.mp4_faults.specs.TopLevel.{NamedBox, boxes_of, AreNamedBoxes, moov_places_in, IsSeen, types_of}
use Rattle.mp4_faults.specs.WrongId.{HasHeader, HasOwner, IsWrongId}
use Rattle.mp4_faults.proofs.Owners.{of-movie, of-fragment}
use Rattle.mp4_faults.proofs.Places.{IsAt, AreAt, last-at, nth-at, movies-at, fragments-at}

-- the first of a list is one of it
first-below : {A : Type 0} (refusal : A → Option Cause) (xs : List A) (i : ℕ) (x : A) (c : Cause)
    → IsFirstIn refusal xs i x c → i < length xs
first-below refusal xs i x c f =
    let long = ap length f.is ∙ length-append f.before (x ∷ f.after) in
    let count = f.count in
    omega (arith, long, count)

-- a header is found in the box that begins at a place, where it has such an owner
has-header : {A : Type 0} (of : List ℕ → Result A Cause) (bytes : List ℕ) (place : ℕ) (x : A)
    (b : IsAt of bytes place x) (id : IdPlace) → id.place ≡ place
    → HasOwner (between bytes b.from b.to) id.name id.number id.header → HasHeader bytes id
has-header of bytes place x b id same owner = record {
  name = b.name;
  from = b.from;
  to = b.to;
  begins = rw same b.begins;
  order = b.order;
  inside = b.inside;
  owner = owner;
}

module _ (size : ℕ) (bytes : List ℕ) (start end : ℕ) (boxes : List NamedBox)
    (are : AreNamedBoxes size bytes start boxes end) where
  pub track-there : (m : MoovBox) → last (moovs_in (boxes_of boxes)) ≡ Some m → (i : ℕ) (t : TrakBox)
      → IsFirstIn zero_id m.traks i t invalid_data
      → (place : ℕ) × (last (moov_places_in (boxes_of boxes)) ≡ Some place)
      × ((id : IdPlace) → id.place ≡ place → id.name ≡ trak → id.number ≡ i + 1 → id.header ≡ tkhd → HasHeader bytes id)
  track-there m is_m i t first =
      let at = last-at moov_of bytes (moovs_in (boxes_of boxes)) (moov_places_in (boxes_of boxes))
      (movies-at size bytes start end boxes are) m is_m in
      let b : IsAt moov_of bytes at.0 m = at.2 in (
        at.0,
        at.1,
        λ id place name number header. has-header moov_of bytes at.0 m b id place (rw (name, number, header)
            (of-movie (between bytes b.from b.to) m b.is i (first-below zero_id m.traks i t invalid_data first))),
      )

  pub traf-there : (known : ℕ → Bool) (i j unknown : ℕ) → IsFirstUnknown known (moofs_in (boxes_of boxes)) i j unknown
      → (place : ℕ) × (slice_get (moof_places_in (boxes_of boxes)) i ≡ Some place)
      × ((id : IdPlace) → id.place ≡ place → id.name ≡ traf → id.number ≡ j + 1 → id.header ≡ tfhd → HasHeader bytes id)
  traf-there known i j unknown first =
      let places = moof_places_in (boxes_of boxes) in
      let moof = first.first_moof in
      let at = nth-at moof_of bytes moof.before first.m moof.after places
      (subst (λ (xs : List MoofBox). AreAt moof_of bytes xs places) moof.is
      (fragments-at size bytes start end boxes are)) in
      let b : IsAt moof_of bytes at.0 first.m = at.2 in (
        at.0,
        ap (slice_get places) (sym moof.count) ∙ at.1,
        λ id place name number header. has-header moof_of bytes at.0 first.m b id place (rw (name, number, header)
            (of-fragment (between bytes b.from b.to) first.m b.is j
            (first-below (unknown_id known) first.m.trafs j first.t (trak_not_found unknown) first.first_traf))),
      )

-- WHAT IS SAID OF A WRONG ID

-- what says the id of a track, where boxes of these types were seen, and that of a track fragment
abbrev pub track-id : List BoxType → (place index : ℕ) → IdPlace
track-id names place index = record {
  top = record { name = moov; number = count_of moov names };
  place = place;
  name = trak;
  number = index + 1;
  header = tkhd;
}

abbrev pub traf-id : (moof_index place index : ℕ) → IdPlace
traf-id moof_index place index = record {
  top = record { name = moof; number = moof_index + 1 };
  place = place;
  name = traf;
  number = index + 1;
  header = tfhd;
}

module _ (size : ℕ) (bytes : List ℕ) (start end : ℕ) (boxes : List NamedBox)
    (are : AreNamedBoxes size bytes start boxes end) (seen : SeenBoxes) (is : IsSeen seen boxes)
    (t : FtypBox) (has_ftyp : seen.ftyp ≡ Some t) (m : MoovBox) (has_moov : seen.moov ≡ Some m) where
  one-moov : last (moovs_in (boxes_of boxes)) ≡ Some m
  one-moov = sym is.moov ∙ has_moov

  at-last : (wrong : IdFault) (id : IdPlace) → TellsIds m seen.moofs (Some wrong) → IsPlaceOf boxes wrong id
      → (error : Error) → cause_of error ≡ cause_of_id wrong → (f : FaultPlace)
      → IsWrongId bytes id f × (f.error ≡ error) → IsFaultOfFile size bytes boxes end f
  at-last wrong id tells place error cause f says =
      wrong_id t (sym is.ftyp ∙ has_ftyp) m one-moov
      (ap (id_fault m) (sym is.moofs) ∙ tells.0 ∙ ap Some (sym cause ∙ ap cause_of (sym says.1))) wrong
      (subst (λ (ms : List MoofBox). IsFirstId m ms wrong) is.moofs tells.1) id place says.0

  module _ (i : ℕ) (tells : TellsIds m seen.moofs (Some (Track i))) (id : IdPlace)
      (e : id ≡ track-id seen.names (unwrap_or seen.moov_place 0) i) where
    abbrev track : (place : ℕ) × (last (moov_places_in (boxes_of boxes)) ≡ Some place)
        × ((id : IdPlace) → id.place ≡ place → id.name ≡ trak → id.number ≡ i + 1 → id.header ≡ tkhd
        → HasHeader bytes id)
    track = track-there size bytes start end boxes are m one-moov i tells.1.0 tells.1.1

    track-place : unwrap_or seen.moov_place 0 ≡ track.0
    track-place = ap (λ (o : Option ℕ). unwrap_or o 0) (is.moov_place ∙ track.1)

    pub track-has : HasHeader bytes id
    track-has =
        track.2 id (ap (λ (x : IdPlace). x.place) e ∙ track-place) (ap (λ (x : IdPlace). x.name) e)
        (ap (λ (x : IdPlace). x.number) e) (ap (λ (x : IdPlace). x.header) e)

    pub track-fault : (f : FaultPlace) (error : Error) → cause_of error ≡ invalid_data
        → IsWrongId bytes id f × (f.error ≡ error) → IsFaultOfFile size bytes boxes end f
    track-fault f error cause says = at-last (Track i) id tells (
      track.0,
      track.1,
      e ∙ ap (λ (ns : List BoxType). track-id ns (unwrap_or seen.moov_place 0) i) is.names
          ∙ ap (λ (p : ℕ). track-id (types_of boxes) p i) track-place,
    ) error cause f says

  module _ (i j unknown : ℕ) (tells : TellsIds m seen.moofs (Some (Fragment i j unknown))) (id : IdPlace)
      (e : id ≡ traf-id i (unwrap_or (slice_get seen.moof_places i) 0) j) where
    abbrev piece : (place : ℕ) × (slice_get (moof_places_in (boxes_of boxes)) i ≡ Some place)
        × ((id : IdPlace) → id.place ≡ place → id.name ≡ traf → id.number ≡ j + 1 → id.header ≡ tfhd
        → HasHeader bytes id)
    piece =
        traf-there size bytes start end boxes are (known_in m.traks) i j unknown
        (subst (λ (ms : List MoofBox). IsFirstUnknown (known_in m.traks) ms i j unknown) is.moofs tells.1.1)

    traf-place : unwrap_or (slice_get seen.moof_places i) 0 ≡ piece.0
    traf-place =
        ap (λ (o : Option ℕ). unwrap_or o 0) (ap (λ (ps : List ℕ). slice_get ps i) is.moof_places ∙ piece.1)

    pub traf-has : HasHeader bytes id
    traf-has =
        piece.2 id (ap (λ (x : IdPlace). x.place) e ∙ traf-place) (ap (λ (x : IdPlace). x.name) e)
        (ap (λ (x : IdPlace). x.number) e) (ap (λ (x : IdPlace). x.header) e)

    pub traf-fault : (f : FaultPlace) (error : Error) → cause_of error ≡ trak_not_found unknown
        → IsWrongId bytes id f × (f.error ≡ error) → IsFaultOfFile size bytes boxes end f
    traf-fault f error cause says =
        at-last (Fragment i j unknown) id tells
        (piece.0, piece.1, e ∙ ap (λ (p : ℕ). traf-id i p j) traf-place) error cause f says
