-- The fault of a file that lacks its file type or its movie.
use Rattle.std.proofs.Common.{◌≡◌, ℕ, Bool, true, false, cond, eqb, List, [], ◌∷◌, Option, Some, None}
use Rattle.std.proofs.Common.{refl, sym, ap, subst, ◌∙◌, arith}
use Rattle.std.proofs.lemmas.Bool.{eqb-true, eq-eqb}
use Rattle.mp4_codec.specs.declared.box_type.BoxType.{BoxType}
use Rattle.mp4_codec.specs.declared.box_type.BoxType.TheVariants.{FtypBox as ftyp, MoovBox as moov}
use Rattle.mp4_codec.specs.declared.error.Error.TheVariants.{BoxNotFound}
use Rattle.mp4_codec.specs.declared.header.BoxHeader.{BoxHeader}
use Rattle.mp4_codec.specs.BoxType.{code_of}
use Rattle.mp4_codec.specs.Cause.{cause_of}
use Rattle.mp4_codec.specs.Cursor.{Cursor, here}
use Rattle.mp4_codec.specs.Steps.{ok_is}
use Rattle.mp4_leaf.specs.declared.ftyp.FtypBox.{FtypBox}
use Rattle.mp4_media.specs.FileGrammar.{EndsFile, open_end, no_more}
use Rattle.mp4_faults.specs.declared.fault_place.FaultPlace.{FaultPlace}
use Rattle.mp4_faults.specs.declared.first_fault.FileEnd.{FileEnd}
use Rattle.mp4_faults.specs.declared.top_level.SeenBoxes.{SeenBoxes}
use Rattle.mp4_faults.specs.Innermost.{step_after}
use Rattle.mp4_faults.specs.TopLevel.{NamedBox, types_of, IsOpenBox, EndsAt, IsSeen}
use Rattle.mp4_faults.specs.FirstFault.{IsLacking, unread, absent, is_open_of, lacking, IsFaultOfFile, no_ftyp, no_moov}

-- where the boxes end, the file does
pub ends-file : (size : ℕ) (bytes : List ℕ) (place : ℕ) (open_type : Option BoxType)
    → EndsAt size bytes place open_type → EndsFile size bytes place
ends-file size bytes place (Some name) b = open_end b.room b.said b.from b.head
ends-file size bytes place None past = no_more past

module _ (bytes : List ℕ) (types : List BoxType) (end : FileEnd) (name : BoxType) where
  abbrev said : Bool → FaultPlace
  said is_open = record {
    path = cond is_open (step_after name types ∷ []) [];
    place = cond is_open end.place end.size;
    error = BoxNotFound name;
  }

  -- one type is said by the header at a place
  same-type : (one another : BoxType) → IsOpenBox end.size bytes end.place one
      → IsOpenBox end.size bytes end.place another → code_of one ≡ code_of another
  same-type one another x y =
      let same =
      ok_is (record { name = x.said; size = 0 }, here bytes x.from)
      (record { name = y.said; size = 0 }, here bytes y.from)
      (sym x.head ∙ y.head) in
      sym x.named ∙ ap (λ (z : BoxHeader × Cursor). code_of z.0.name) same ∙ y.named

  at-open : (one : BoxType) → IsOpenBox end.size bytes end.place one → (b : Bool) → eqb (code_of one) (code_of name) ≡ b
      → IsLacking end.size bytes types end.place name (said b)
  at-open one o true e =
      unread (record {
        room = o.room;
        said = o.said;
        from = o.from;
        head = o.head;
        named = o.named ∙ eqb-true (code_of one) (code_of name) e;
      }) refl refl
  at-open one o false e =
      absent (λ other. let not = sym e ∙ eq-eqb (code_of one) (code_of name) (same-type one name o other) in absurd cc)
      refl refl

  at-end : (o : Option BoxType) → EndsAt end.size bytes end.place o
      → IsLacking end.size bytes types end.place name (said (is_open_of o name))
  at-end (Some one) o = at-open one o (eqb (code_of one) (code_of name)) refl
  at-end None past = absent (λ other. let room = other.room in absurd (omega (arith, past, room))) refl refl

  pub lacks : EndsAt end.size bytes end.place end.open_type
      → IsLacking end.size bytes types end.place name (lacking types end name)
  lacks ends = at-end end.open_type ends

-- what is said of a file with these boxes up to its end
module _ (bytes : List ℕ) (boxes : List NamedBox) (seen : SeenBoxes) (is : IsSeen seen boxes) (end : FileEnd)
    (ends : EndsAt end.size bytes end.place end.open_type) (f : FaultPlace) where
  lacks-box : (name : BoxType) → f ≡ lacking seen.names end name
      → IsLacking end.size bytes (types_of boxes) end.place name f
  lacks-box name e =
      subst (λ (ts : List BoxType). IsLacking end.size bytes ts end.place name f) is.names
      (subst (λ (x : FaultPlace). IsLacking end.size bytes seen.names end.place name x) (sym e)
      (lacks bytes seen.names end name ends))

  pub lacks-ftyp : seen.ftyp ≡ None → f ≡ lacking seen.names end ftyp
      → IsFaultOfFile end.size bytes boxes end.place f
  lacks-ftyp none e =
      no_ftyp (sym is.ftyp ∙ none) (ap (λ (x : FaultPlace). cause_of x.error) e) (lacks-box ftyp e)

  pub lacks-moov : (t : FtypBox) → seen.ftyp ≡ Some t → seen.moov ≡ None → f ≡ lacking seen.names end moov
      → IsFaultOfFile end.size bytes boxes end.place f
  lacks-moov t some none e =
      no_moov t (sym is.ftyp ∙ some) (sym is.moov ∙ none) (ap (λ (x : FaultPlace). cause_of x.error) e)
      (lacks-box moov e)
