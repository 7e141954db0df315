-- The next box of a file: what is known of it, and of its fault.
use Rattle.std.proofs.Common.{◌≡◌, inl, inr, ◌<◌, ◌≤◌, ℕ, ◌+◌, ◌-◌, ◌^◌, Bool, true, false, ltb, cond, List, [], ◌∷◌}
use Rattle.std.proofs.Common.{length, take, drop, Some, None, Result, Ok, Err, refl, sym, ap, subst, ◌∙◌, arith}
use Rattle.std.proofs.lemmas.Bool.{le-ltb}
use Rattle.std.proofs.lemmas.List.{length-drop, length-take-le}
use Rattle.mp4_codec.specs.declared.box_type.BoxType.{BoxType}
use Rattle.mp4_codec.specs.declared.box_type.BoxType.TheVariants.{FtypBox, MoovBox, MoofBox, EmsgBox}
use Rattle.mp4_codec.specs.declared.header.BoxHeader.{BoxHeader}
use Rattle.mp4_codec.specs.Cause.{Cause, cause_of, end_of_data, invalid_data, ◌>>=◌}
use Rattle.mp4_codec.specs.Cursor.{Cursor, here, header_at}
use Rattle.mp4_codec.specs.Boxes.{box_at}
use Rattle.mp4_codec.specs.Steps.{ok_is}
use Rattle.mp4_codec.specs.FramingLaws.{why_no_head}
use Rattle.mp4_media.specs.FileBoxes.{BoxContent, Skipped, meaning_of}
use Rattle.mp4_media.specs.FileGrammar.{between, Begins, read, skipped, past_the_bytes, meaningless, past_64_bits}
use Rattle.mp4_media.specs.FileGrammar.{nothing, larger, IsFault, rest, no_header}
use Rattle.mp4_faults.specs.declared.fault_place.FaultPlace.{FaultPlace}
use Rattle.mp4_faults.specs.declared.top_level.Payload.{Payload}
use Rattle.mp4_faults.specs.declared.top_level.SeenBoxes.{SeenBoxes}
use Rattle.mp4_faults.specs.Payload.{whole_payload}
use Rattle.mp4_faults.specs.Refusal.{payload_fault}
use Rattle.mp4_faults.specs.Inner.{InnerBox, end_of}
use Rattle.mp4_faults.specs.Innermost.{IsInnermost, step_after}
use Rattle.mp4_faults.specs.TopLevel.{IsTopBox, IsNamedBox, IsFaultAt, IsInside, RefusesContent, Means, IsRead, IsBegun}
use Rattle.mp4_faults.specs.TopLevel.{IsIn, outermost, refused, no_room, no_box, GivesNext, TellsNext, SaysNext}
use Rattle.mp4_faults.specs.TopLevel.{TellsInside, IsOpenBox}
use Rattle.mp4_faults.specs.TopLevel.{SaysWhose, IsUnread}
use Rattle.mp4_source.specs.Answers.{RefusesRead}
use Rattle.mp4_source.specs.declared.file_error.FileError.{FileError}
use Rattle.mp4_source.specs.declared.file_error.FileError.TheVariants.{Mp4, Io}
use Rattle.mp4_codec.specs.declared.error.Error.{Error}
use Rattle.mp4_faults.specs.declared.top_level.NextBox.{NextBox}
use Rattle.mp4_faults.specs.declared.top_level.NextBox.TheVariants.{Faulty}

-- A box that is read, whose payload is at hand.
module _ (size : ℕ) (bytes : List ℕ) (b : InnerBox) (t : IsTopBox size bytes b) where
  pub top-box : (content : BoxContent) → Means b.name b.payload (Ok content)
      → IsNamedBox size bytes b.place (end_of b) (b.name, record { place = b.place; content = content })
  top-box content m = record {
    box = record {
      name = b.name;
      from = b.from;
      begins = t.begins;
      fits = t.fits;
      place_is = refl;
      holds = read m.0 m.1 t.within (ap m.0 (sym t.payload) ∙ m.2);
    };
    name = refl;
  }

  same-box : b ≡ outermost bytes b.name b.place b.from (end_of b)
  same-box =
      ap (λ (p : List ℕ).
      let x : InnerBox = record { name = b.name; place = b.place; from = b.from; payload = p } in x) t.payload

  pub top-fault : (old new : SeenBoxes) (c : Cause) (f : FaultPlace) → RefusesContent old new b c
      → IsInside new.names b c f → IsFaultAt size bytes b.place old.names f
  top-fault old new c f r i = record {
    fault = subst (λ (x : Cause). IsFault size bytes b.place x) (sym i.cause)
        (nothing b.name b.from (end_of b) t.begins t.fits
        (meaningless r.means.0 r.means.1 t.within (ap r.means.0 (sym t.payload) ∙ r.means.2)));
    is_in = subst (λ (x : Cause). IsIn size bytes b.place old.names x f.path f.place) (sym i.cause)
        (refused b.name b.from (end_of b) t.begins
        (record { small = t.fits; within = t.within; narrow = t.narrow })
        (ap (λ (p : List ℕ). payload_fault b.name p) (sym t.payload) ∙ r.fault) i.inward i.b
        (subst (λ (a : InnerBox). IsInnermost c a i.inward i.b) same-box i.innermost)
        (i.path ∙ ap (λ names. step_after b.name names ∷ i.inward) r.names) i.place);
  }

-- a box that begins with this header
pub begins-with : (size : ℕ) (bytes : List ℕ) (place from : ℕ) (h : BoxHeader)
    → header_at (here bytes place) ≡ Ok (h, here bytes from) → place + 8 ≤ size → 8 ≤ h.size
    → Begins size bytes place h.name from (from + (h.size - 8))
begins-with size bytes place from h e room large =
    let same : h.size ≡ from + (h.size - 8) - from + 8 = omega (arith, large) in
    record {
      room = room;
      head = e ∙ ap (λ (n : ℕ). Ok (record { name = h.name; size = n }, here bytes from)) same;
      order = omega arith;
    }

-- boxes that are read have a meaning
pub read-means : (name : BoxType) → IsRead name
    → (value : List ℕ → Result BoxContent Cause) × (meaning_of name ≡ Some value)
unfolding meaning_of
read-means FtypBox h = (_, refl)
read-means MoovBox h = (_, refl)
read-means MoofBox h = (_, refl)
read-means EmsgBox h = (_, refl)
read-means other h = absurd h

-- A box with this header, which isn't larger than the file.
module _ (size : ℕ) (bytes : List ℕ) (place from : ℕ) (h : BoxHeader) (large : 8 ≤ h.size)
    (t : IsBegun size bytes place h from) where
  whole-fits : from + (h.size - 8) - from + 8 ≤ size
  whole-fits = let fits : h.size ≤ size = t.fits in omega (arith, large, fits)

  pub skipped-box : meaning_of h.name ≡ None → from + (h.size - 8) < 2 ^ 64
      → IsNamedBox size bytes place (from + (h.size - 8)) (h.name, record { place = place; content = Skipped })
  skipped-box none small = record {
    box = record {
      name = h.name;
      from = from;
      begins = t.begins;
      fits = whole-fits;
      place_is = refl;
      holds = skipped none small refl;
    };
    name = refl;
  }

  pub too-wide : (f : FaultPlace) (names : List BoxType) → meaning_of h.name ≡ None → 2 ^ 64 ≤ from + (h.size - 8)
      → cause_of f.error ≡ invalid_data → f.path ≡ step_after h.name names ∷ [] → f.place ≡ place
      → IsFaultAt size bytes place names f
  too-wide f names none wide e path at = record {
    fault = nothing h.name from (from + (h.size - 8)) t.begins whole-fits (past_64_bits none wide e);
    is_in = no_room h.name from (from + (h.size - 8)) t.begins (inr (inr wide)) path at;
  }

  pub past-the-bytes : (f : FaultPlace) (names : List BoxType) → IsRead h.name
      → length bytes < from + (h.size - 8) → cause_of f.error ≡ end_of_data
      → f.path ≡ step_after h.name names ∷ [] → f.place ≡ place → IsFaultAt size bytes place names f
  past-the-bytes f names is_read outside e path at =
      let m = read-means h.name is_read in
      record {
        fault = nothing h.name from (from + (h.size - 8)) t.begins whole-fits (past_the_bytes m.0 m.1 outside e);
        is_in = no_room h.name from (from + (h.size - 8)) t.begins (inr (inl outside)) path at;
      }

-- a box that is larger than the file
pub too-large : (size : ℕ) (bytes : List ℕ) (place from : ℕ) (h : BoxHeader) → 8 ≤ h.size → size < h.size
    → Begins size bytes place h.name from (from + (h.size - 8)) → (f : FaultPlace) (names : List BoxType)
    → cause_of f.error ≡ invalid_data → f.path ≡ step_after h.name names ∷ [] → f.place ≡ place
    → IsFaultAt size bytes place names f
too-large size bytes place from h large past begins f names e path at =
    let wide : size < from + (h.size - 8) - from + 8 = omega (arith, large, past) in
    record {
      fault = larger h.name from (from + (h.size - 8)) begins wide e;
      is_in = no_room h.name from (from + (h.size - 8)) begins (inl wide) path at;
    }

-- A place of a file where no box begins.
module _ (size : ℕ) (bytes : List ℕ) (place : ℕ) where
  pub too-few : (f : FaultPlace) (names : List BoxType) → place < size → size < place + 8
      → cause_of f.error ≡ end_of_data
      → f.path ≡ [] → f.place ≡ place → IsFaultAt size bytes place names f
  too-few f names below few e path at = record { fault = rest below few e; is_in = no_box (inl few) path at }

  pub headless : (f : FaultPlace) (names : List BoxType) → place + 8 ≤ size
      → header_at (here bytes place) ≡ Err (cause_of f.error)
      → f.path ≡ [] → f.place ≡ place → IsFaultAt size bytes place names f
  headless f names room e path at = record {
    fault = no_header room (why_no_head (here bytes place) (cause_of f.error) e);
    is_in = no_box (inr e) path at;
  }

  pub ends-open : (h : BoxHeader) (from : ℕ) → place + 8 ≤ size → header_at (here bytes place) ≡ Ok (h, here bytes from)
      → h.size ≡ 0 → IsOpenBox size bytes place h.name
  ends-open h from room e zero = record {
    room = room;
    said = h.name;
    from = from;
    head = e ∙ ap (λ (n : ℕ). Ok (record { name = h.name; size = n }, here bytes from)) zero;
    named = refl;
  }

-- what a refused read says of the answer that it is of
pub unread-of : {Y : Type 0} (can_refuse : Bool) (refusal u : FileError) (answer : Result Y Cause)
    → SaysWhose refusal (Err u) → RefusesRead can_refuse refusal answer → IsUnread can_refuse u
unread-of can_refuse (Mp4 e) u answer says a = rw says.0 says.1
unread-of can_refuse (Io e) u answer says a = rw says.0 a

pub fault-read : {Y : Type 0} (can_refuse : Bool) (refusal : FileError) (e : Error) (answer : Result Y Cause)
    → SaysWhose refusal (Ok e) → RefusesRead can_refuse refusal answer → answer ≡ Err (cause_of e)
fault-read can_refuse (Mp4 x) e answer says (inl memory) =
    let same : x ≡ e = cc in absurd (says.1 (sym same ∙ memory))
fault-read can_refuse (Mp4 x) e answer says (inr fault) =
    let same : x ≡ e = cc in fault ∙ ap (λ (y : Error). Err (cause_of y)) same
fault-read can_refuse (Io x) e answer says a = absurd cc

-- A payload that is read as it is.
module _ (size from : ℕ) (bytes : List ℕ) (large : 8 ≤ size) where
  enough : ltb size 8 ≡ false
  enough = le-ltb size 8 large

  -- that it is these bytes, and where it ends
  pub record IsWhole (p : Payload) (after : ℕ) : Type 0 where
    pub is : p.bytes ≡ between bytes from (from + (size - 8))
    pub end : after ≡ from + (size - 8)
    pub within : from + (size - 8) ≤ length bytes

  abbrev taken : Bool → Result (Payload × Cursor) Cause
  taken past = cond past (Err end_of_data)
      (Ok (record { bytes = take (size - 8) (drop from bytes) }, here bytes (from + (size - 8))))

  taken-is : box_at whole_payload size (here bytes from) ≡ taken (ltb (length bytes) (from + (size - 8)))
  taken-is = rw enough (by (ltb (length bytes) (from + (size - 8))))
    where
      by : (past : Bool)
          → ◌>>=◌ {A = List ℕ × Cursor} {B = Payload × Cursor}
          (cond past (Err end_of_data) (Ok (take (size - 8) (drop from bytes), here bytes (from + (size - 8)))))
          (λ part. Ok (record { bytes = part.0 }, part.1)) ≡ taken past
      by true = refl
      by false = refl

  pub payload-whole : (p : Payload) (after : ℕ)
      → box_at whole_payload size (here bytes from) ≡ Ok (p, here bytes after) → IsWhole p after
  payload-whole p after e = by (ltb (length bytes) (from + (size - 8))) refl (sym taken-is ∙ e)
    where
      by : (past : Bool) → ltb (length bytes) (from + (size - 8)) ≡ past → taken past ≡ Ok (p, here bytes after)
          → IsWhole p after
      by true t e = absurd cc
      by false t e =
          let same =
          ok_is (record { bytes = take (size - 8) (drop from bytes) }, here bytes (from + (size - 8)))
          (p, here bytes after) e in
          let n : size - 8 ≡ from + (size - 8) - from = omega arith in
          record {
            is =
                ap (λ (x : Payload × Cursor). x.0.bytes) (sym same)
                ∙ ap (λ (k : ℕ). take k (drop from bytes)) n;
            end = ap (λ (x : Payload × Cursor). x.1.position) (sym same);
            within = grind arith;
          }

  pub payload-cut : (c : Cause) → box_at whole_payload size (here bytes from) ≡ Err c
      → (c ≡ end_of_data) × (length bytes < from + (size - 8))
  payload-cut c e = by (ltb (length bytes) (from + (size - 8))) refl (sym taken-is ∙ e)
    where
      by : (past : Bool) → ltb (length bytes) (from + (size - 8)) ≡ past → taken past ≡ Err c
          → (c ≡ end_of_data) × (length bytes < from + (size - 8))
      by true t e = (cc, grind arith)
      by false t e = absurd cc

-- A box whose payload was read as it is.
module _ (size : ℕ) (bytes : List ℕ) (place from : ℕ) (h : BoxHeader) (large : 8 ≤ h.size)
    (t : IsBegun size bytes place h from) (p : Payload) (after : ℕ) (w : IsWhole h.size from bytes large p after)
  where
    abbrev pub read-box : InnerBox
    read-box = record { name = h.name; place = place; from = from; payload = p.bytes }

    read-length : length p.bytes ≡ h.size - 8
    read-length =
        let within = w.within in
        let left-length = length-drop from bytes in
        let n : from + (h.size - 8) - from ≡ h.size - 8 = omega arith in
        ap length w.is
        ∙ length-take-le (from + (h.size - 8) - from) (drop from bytes) (omega (arith, n, within, left-length))
        ∙ n

    pub ends-after : end_of read-box ≡ after
    ends-after = let long = read-length in let end = w.end in omega (arith, long, end)

    pub is-top-box : after < 2 ^ 64 → IsTopBox size bytes read-box
    is-top-box small =
        let long = read-length in
        let end = w.end in
        let to : end_of read-box ≡ from + (h.size - 8) = omega (arith, long) in
        let fits = t.fits in
        record {
          begins = rw to t.begins;
          fits = omega (arith, long, large, fits);
          payload = w.is ∙ ap (between bytes from) (sym to);
          within = let within = w.within in omega (arith, to, within);
          narrow = omega (arith, to, end, small);
        }

-- What a call gives that is the answer of another.
module _ (size : ℕ) (bytes : List ℕ) (place after : ℕ) (old new : SeenBoxes) where
  pub gives-fault : (r : Result NextBox Error) (f : FaultPlace) → GivesNext r (Faulty f)
      → IsFaultAt size bytes place old.names f → TellsNext size bytes place old new after r
  gives-fault (Ok next) f g h = subst (λ (n : NextBox). SaysNext size bytes place old new after n) (sym g) h
  gives-fault (Err e) f g h = g

  pub tells-inside : (r : Result NextBox Error) (names : List BoxType) (a : InnerBox) (c : Cause)
      → TellsInside names a c r → ((f : FaultPlace) → IsInside names a c f → IsFaultAt size bytes place old.names f)
      → TellsNext size bytes place old new after r
  tells-inside (Ok next) names a c t h =
      subst (λ (n : NextBox). SaysNext size bytes place old new after n) (sym t.1) (h t.0 t.2)
  tells-inside (Err e) names a c t h = t
