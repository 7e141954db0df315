-- Files with a fault, which are refused for it, and files for which memory runs out.
use Rattle.std.proofs.Common.{◌≡◌, ℕ, Bool, List, length, Option, None, Some, Result, Ok, Err, IfErr, IfSome, inl, inr}
use Rattle.std.proofs.Common.{[], ◌∷◌, ◌≤◌, arith, refl, subst, sym}
use Rattle.mp4_codec.specs.Cause.{Cause}
use Rattle.mp4_codec.specs.Children.{last}
use Rattle.mp4_codec.specs.Cursor.{Cursor, here, header_at}
use Rattle.mp4_codec.specs.declared.header.BoxHeader.{BoxHeader}
use Rattle.mp4_remux.specs.Front.{HasNoHeader, HasToMove, IsMovieLater}
use Rattle.mp4_source.specs.Answers.{IsLength, RefusesRead}
use Rattle.mp4_source.specs.Source.{HasPart}
use Rattle.mp4_codec.specs.declared.error.Error.TheVariants.{OutOfMemory}
use Rattle.mp4_remux.specs.declared.error.RemuxError.TheVariants.{Mp4, Read, Write, Twice, SaysPlaces}
use Rattle.mp4_remux.specs.declared.error.RemuxError.TheVariants.{TooManySamples, OtherTracks, Differs}
use Rattle.mp4_remux.specs.declared.error.RemuxError.TheVariants.{SaysOfSamples, StartsElsewhere, SameIds}
use Rattle.mp4_source.specs.declared.file_error.FileError.{FileError}
use Rattle.mp4_source.specs.declared.file_error.FileError.TheVariants.{Mp4 as of_mp4, Io as file_refused}
use Rattle.mp4_media.specs.FileBoxes.{FileBox, OpenedFile, ftyps_in}
use Rattle.mp4_media.specs.FileGrammar.{AreFileBoxes, IsFaultyFile, IsFile}
use Rattle.mp4_media.specs.Opening.{IsOpeningOf}
use Rattle.mp4_remux.specs.declared.error.RemuxError.{RemuxError}
use Rattle.mp4_remux.specs.Errors.{CopyFails, GivesCause, IsCause, IsNamed, IsNoFault, SaysFault, TakesMemory}
use Rattle.mp4_remux.specs.Errors.{IsRefusalOf, of_file, of_layout}
use Rattle.mp4_remux.specs.declared.layout_error.LayoutError.{LayoutError}
use Rattle.mp4_remux.specs.declared.layout_error.LayoutError.TheVariants.{Mp4 as of_movie, TooManySamples as too_many}
use Rattle.mp4_remux.specs.declared.layout_error.LayoutError.TheVariants.{StartsElsewhere as elsewhere}
use Rattle.mp4_remux.specs.declared.layout_error.LayoutError.TheVariants.{SameIds as same_ids, OtherTracks as other}
use Rattle.mp4_remux.specs.declared.layout_error.LayoutError.TheVariants.{Differs as differs}
use Rattle.mp4_remux.specs.Remuxed.{IsOnlyFile}

-- a refused opening is one of what is done with the file
refused_for : (Y : Type 0) (can_refuse : Bool) (e : FileError) (c : Cause)
    → RefusesRead {Y = Y} can_refuse e (Err c) → IsCause can_refuse c (of_file e)
refused_for Y can_refuse (of_mp4 e) c (inl none) = inl none
refused_for Y can_refuse (of_mp4 e) c (inr is) = inr cc
refused_for Y can_refuse (file_refused e) c may = may

-- a file that isn't opened is refused for its first fault
pub fault_of_opening : {X : Type 0} (known : Option (List ℕ)) (can_refuse : Bool) (view : X → OpenedFile) (len : ℕ)
    (e : FileError) → IfSome known (λ xs. IsOpeningOf can_refuse view len (here xs 0) (Err e))
    → IfSome known (λ xs. (c : Cause) → IsFaultyFile len (here xs 0) c → IsCause can_refuse c (of_file e))
fault_of_opening None can_refuse view len e opening = tt
fault_of_opening (Some xs) can_refuse view len e opening =
    λ c faulty. refused_for OpenedFile can_refuse e c (opening.refused c faulty)

-- one that is opened has none
pub opened_without_fault : {X : Type 0} (known : Option (List ℕ)) (can_refuse : Bool) (view : X → OpenedFile)
    (len : ℕ) (x : X) → IfSome known (λ xs. IsOpeningOf can_refuse view len (here xs 0) (Ok x))
    → IfSome known (λ xs. (c : Cause) → IsFaultyFile len (here xs 0) c → ⊥)
opened_without_fault None can_refuse view len x opening = tt
opened_without_fault (Some xs) can_refuse view len x opening = λ c faulty.
    let no = opening.refused c faulty in absurd cc

-- a file has no fault of a kind, where its bytes are known
abbrev pub HasNone : Option (List ℕ) → Type 0
HasNone known = IfSome known (λ xs. (c : Cause) → IsFaultyFile (length xs) (here xs 0) c → ⊥)

-- an error is one for the first fault of a file
abbrev pub IsFaultOf : Option (List ℕ) → Bool → RemuxError → Type 0
IsFaultOf known can_refuse e = IfSome known (λ xs. (c : Cause) → IsFaultyFile (length xs) (here xs 0) c
    → IsCause can_refuse c e)

-- a file of so many bytes, which are known to be as many
pub none_by_len : (known : Option (List ℕ)) (len : ℕ) → IsLength known len
    → IfSome known (λ xs. (c : Cause) → IsFaultyFile len (here xs 0) c → ⊥) → HasNone known
none_by_len None len is none = tt
none_by_len (Some xs) len is none =
    λ c faulty. none c (subst (λ n. IsFaultyFile n (here xs 0) c) (sym is) faulty)

pub fault_by_len : (known : Option (List ℕ)) (can_refuse : Bool) (len : ℕ) (e : RemuxError) → IsLength known len
    → IfSome known (λ xs. (c : Cause) → IsFaultyFile len (here xs 0) c → IsCause can_refuse c e)
    → IsFaultOf known can_refuse e
fault_by_len None can_refuse len e is says = tt
fault_by_len (Some xs) can_refuse len e is says =
    λ c faulty. says c (subst (λ n. IsFaultyFile n (here xs 0) c) (sym is) faulty)

-- where a call passes such an error on
pub given_on : {X : Type 0} (known : Option (List ℕ)) (can_refuse : Bool) (len : ℕ) (e : RemuxError)
    (result : Result X RemuxError) → result ≡ Err e
    → IfSome known (λ xs. (c : Cause) → IsFaultyFile len (here xs 0) c → IsCause can_refuse c e)
    → IfSome known (λ xs. (c : Cause) → IsFaultyFile len (here xs 0) c → GivesCause can_refuse c result)
given_on None can_refuse len e result is says = tt
given_on (Some xs) can_refuse len e result is says = λ c faulty. rw is (says c faulty)

pub passed_on : {X : Type 0} (known : Option (List ℕ)) (can_refuse : Bool) (e : RemuxError)
    (result : Result X RemuxError) → result ≡ Err e → IsFaultOf known can_refuse e → SaysFault known can_refuse result
passed_on None can_refuse e result is says = tt
passed_on (Some xs) can_refuse e result is says = λ c faulty. rw is (says c faulty)

-- where a file was opened it has no fault, whatever is answered then
pub no_fault : {X : Type 0} (known : Option (List ℕ)) (can_refuse : Bool) (result : Result X RemuxError)
    → HasNone known → SaysFault known can_refuse result
no_fault None can_refuse result none = tt
no_fault (Some xs) can_refuse result none = λ c faulty. absurd (none c faulty)

-- a file has a box, so it has room for a header
boxes_have_room : (size : ℕ) (bytes : List ℕ) (place next : ℕ) (boxes : List FileBox)
    → AreFileBoxes size bytes place boxes next → (ftyps_in boxes ≡ [] → ⊥) → 8 ≤ size
unfolding AreFileBoxes
boxes_have_room size bytes place next [] are some = absurd (some refl)
boxes_have_room size bytes place next (b ∷ bs) are some = omega (arith, are.1.fits)

pub file_has_room : (known : Option (List ℕ)) (len : ℕ) (opened : OpenedFile)
    → IfSome known (λ xs. IsFile len (here xs 0) opened) → IfSome known (λ xs. 8 ≤ len)
file_has_room None len opened file = tt
file_has_room (Some xs) len opened file =
    boxes_have_room len xs 0 file.end file.boxes file.are
    (λ none. let no = subst (λ list. last list ≡ Some opened.ftyp) none file.ftyp in absurd cc)

-- one that is opened has room
pub opened_has_room : {X : Type 0} (known : Option (List ℕ)) (can_refuse : Bool) (view : X → OpenedFile) (len : ℕ)
    (x : X) → IfSome known (λ xs. IsOpeningOf can_refuse view len (here xs 0) (Ok x)) → IfSome known (λ xs. 8 ≤ len)
opened_has_room None can_refuse view len x opening = tt
opened_has_room (Some xs) can_refuse view len x opening = file_has_room (Some xs) len (view x) opening.file

pub room_by_len : (known : Option (List ℕ)) (len : ℕ) → IsLength known len → IfSome known (λ xs. 8 ≤ len)
    → HasPart known 0 8
room_by_len None len is room = tt
room_by_len (Some xs) len is room = omega (arith, is, room)

-- where memory runs out for the file, it does for the call
pub memory_of_file : (e : FileError) (len : ℕ) → (e ≡ of_mp4 OutOfMemory → 8 ≤ len) → of_file e ≡ Mp4 OutOfMemory
    → 8 ≤ len
memory_of_file (of_mp4 e) len asked is = asked cc
memory_of_file (file_refused e) len asked is = absurd cc

pub memory_passed_on : {X : Type 0} (known : Option (List ℕ)) (len : ℕ) (e : RemuxError) (result : Result X RemuxError)
    → result ≡ Err e → IsLength known len → (e ≡ Mp4 OutOfMemory → 8 ≤ len) → TakesMemory known result
memory_passed_on None len e result is measured asked = rw is (λ _. tt)
memory_passed_on (Some xs) len e result is measured asked = rw is (λ f. omega (arith, asked f, measured))

pub memory_given_on : {X : Type 0} (known : Option (List ℕ)) (e : RemuxError) (result : Result X RemuxError)
    → result ≡ Err e → (e ≡ Mp4 OutOfMemory → HasPart known 0 8) → TakesMemory known result
memory_given_on known e result is asked = rw is asked

-- where a file has room, memory may run out whatever is answered
pub may_run_out : {X : Type 0} (known : Option (List ℕ)) (result : Result X RemuxError) → HasPart known 0 8
    → TakesMemory known result
may_run_out known (Ok x) room = tt
may_run_out known (Err e) room = λ _. room

-- FILES THAT OPEN

-- a file that opens isn't refused by name
unnamed : (can_refuse : Bool) (e : FileError) (opened : OpenedFile) → RefusesRead can_refuse e (Ok opened)
    → IsNamed (of_file e) → ⊥
unnamed can_refuse (of_mp4 e) opened (inl no_room) named = named no_room
unnamed can_refuse (of_mp4 e) opened (inr is) named = absurd cc
unnamed can_refuse (file_refused e) opened may named = named

pub opens_or_is_none : {X : Type 0} (known : Option (List ℕ)) (can_refuse : Bool) (view : X → OpenedFile) (len : ℕ)
    (e : FileError) → IfSome known (λ xs. IsOpeningOf can_refuse view len (here xs 0) (Err e)) → IsNamed (of_file e)
    → IfSome known (λ xs. (o : OpenedFile) → IsFile len (here xs 0) o → ⊥)
opens_or_is_none None can_refuse view len e opening named = tt
opens_or_is_none (Some xs) can_refuse view len e opening named =
    λ o file. unnamed can_refuse e o (opening.opens o file) named

-- it is refused for memory or by the source, whatever the cause would be
refused_for_none : (can_refuse : Bool) (e : FileError) (opened : OpenedFile) → RefusesRead can_refuse e (Ok opened)
    → (c : Cause) → IsCause can_refuse c (of_file e)
refused_for_none can_refuse (of_mp4 e) opened (inl no_room) c = inl no_room
refused_for_none can_refuse (of_mp4 e) opened (inr is) c = absurd cc
refused_for_none can_refuse (file_refused e) opened may c = may

pub opens_without_fault : {X : Type 0} (known : Option (List ℕ)) (can_refuse : Bool) (view : X → OpenedFile) (len : ℕ)
    (e : FileError) → IfSome known (λ xs. IsOpeningOf can_refuse view len (here xs 0) (Err e))
    → IfSome known (λ xs. (o : OpenedFile) → IsFile len (here xs 0) o → (c : Cause) → IsCause can_refuse c (of_file e))
opens_without_fault None can_refuse view len e opening = tt
opens_without_fault (Some xs) can_refuse view len e opening =
    λ o file c. refused_for_none can_refuse e o (opening.opens o file) c

pub no_fault_of_len : (known : Option (List ℕ)) (can_refuse : Bool) (len : ℕ) (e : RemuxError) → IsLength known len
    → IfSome known (λ xs. (o : OpenedFile) → IsFile len (here xs 0) o → (c : Cause) → IsCause can_refuse c e)
    → IsNoFault known can_refuse e
no_fault_of_len None can_refuse len e is refused = tt
no_fault_of_len (Some xs) can_refuse len e is refused =
    λ o file c. refused o (subst (λ n. IsFile n (here xs 0) o) (sym is) file) c

injected : (r : Result OpenedFile Cause) (x y : OpenedFile) → r ≡ Ok x → r ≡ Ok y → x ≡ y
injected r x y is also = cc

-- one that is opened is no other
pub opened_alone : {X : Type 0} (known : Option (List ℕ)) (can_refuse : Bool) (view : X → OpenedFile) (len : ℕ)
    (x : X) → IfSome known (λ xs. IsOpeningOf can_refuse view len (here xs 0) (Ok x))
    → IfSome known (λ xs. (o : OpenedFile) → IsFile len (here xs 0) o → view x ≡ o)
opened_alone None can_refuse view len x opening = tt
opened_alone (Some xs) can_refuse view len x opening =
    λ o file. injected (Ok o) (view x) o (opening.opens o file) refl

pub none_of_len : (known : Option (List ℕ)) (len : ℕ) → IsLength known len
    → IfSome known (λ xs. (o : OpenedFile) → IsFile len (here xs 0) o → ⊥)
    → IfSome known (λ xs. (o : OpenedFile) → IsFile (length xs) (here xs 0) o → ⊥)
none_of_len None len is none = tt
none_of_len (Some xs) len is none = λ o file. none o (subst (λ n. IsFile n (here xs 0) o) (sym is) file)

pub only_of_len : (known : Option (List ℕ)) (len : ℕ) (opened : OpenedFile) → IsLength known len
    → IfSome known (λ xs. (o : OpenedFile) → IsFile len (here xs 0) o → opened ≡ o) → IsOnlyFile known opened
only_of_len None len opened is only = tt
only_of_len (Some xs) len opened is only =
    λ o file. only o (subst (λ n. IsFile n (here xs 0) o) (sym is) file)

-- what no layout is made for is a refusal of no source and no sink
pub refused_layout : {X : Type 0} (SourceRefuses SinkRefuses : Type 0) (e : LayoutError) (result : Result X RemuxError)
    → result ≡ Err (of_layout e) → IfErr result (IsRefusalOf SourceRefuses SinkRefuses)
refused_layout SourceRefuses SinkRefuses (of_movie e) result is = rw is tt
refused_layout SourceRefuses SinkRefuses (too_many track) result is = rw is tt
refused_layout SourceRefuses SinkRefuses (elsewhere track number) result is = rw is tt
refused_layout SourceRefuses SinkRefuses same_ids result is = rw is tt
refused_layout SourceRefuses SinkRefuses other result is = rw is tt
refused_layout SourceRefuses SinkRefuses (differs track number) result is = rw is tt

-- what is copied isn't refused by name
pub copy_unnamed : (Refuses : Type 0) (can_refuse : Bool) (e : RemuxError) → CopyFails Refuses can_refuse e → IsNamed e
    → ⊥
copy_unnamed Refuses can_refuse (Mp4 e) no_room named = named no_room
copy_unnamed Refuses can_refuse (Read e) fails named = named
copy_unnamed Refuses can_refuse (Write e) fails named = named
copy_unnamed Refuses can_refuse (Twice name) fails named = fails
copy_unnamed Refuses can_refuse (SaysPlaces name place) fails named = fails
copy_unnamed Refuses can_refuse (TooManySamples track) fails named = fails
copy_unnamed Refuses can_refuse (SaysOfSamples name place) fails named = fails
copy_unnamed Refuses can_refuse (StartsElsewhere track number) fails named = fails
copy_unnamed Refuses can_refuse SameIds fails named = fails
copy_unnamed Refuses can_refuse OtherTracks fails named = fails
copy_unnamed Refuses can_refuse (Differs track number) fails named = fails

-- a refusal of whatever error, where what it says holds anyhow
pub refused_anyhow : {X : Type 0} (P : Type 0) (result : Result X RemuxError) → P → IfErr result (λ e. IsNamed e → P)
refused_anyhow P (Ok x) holds = tt
refused_anyhow P (Err e) holds = λ _. holds

pub refused_unnamed : {X : Type 0} (P Refuses : Type 0) (can_refuse : Bool) (result : Result X RemuxError)
    → IfErr result (CopyFails Refuses can_refuse) → IfErr result (λ e. IsNamed e → P)
refused_unnamed P Refuses can_refuse (Ok x) fails = tt
refused_unnamed P Refuses can_refuse (Err e) fails = λ named. absurd (copy_unnamed Refuses can_refuse e fails named)

-- a header that isn't read for what it is isn't there
unread : (can_refuse : Bool) (e : FileError) (r : Result (BoxHeader × Cursor) Cause) → RefusesRead can_refuse e r
    → IsNamed (of_file e) → (x : BoxHeader × Cursor) → r ≡ Ok x → ⊥
unread can_refuse (of_mp4 e) r (inl no_room) named x is = named no_room
unread can_refuse (of_mp4 e) r (inr isnt) named x is = absurd cc
unread can_refuse (file_refused e) r may named x is = named

pub no_header_there : (known : Option (List ℕ)) (can_refuse : Bool) (e : FileError) (place : ℕ)
    → IfSome known (λ xs. RefusesRead can_refuse e (header_at (here xs place))) → IsNamed (of_file e)
    → HasNoHeader known place
no_header_there None can_refuse e place refused named = tt
no_header_there (Some xs) can_refuse e place refused named =
    λ x is. unread can_refuse e (header_at (here xs place)) refused named x is

-- a file that isn't opened has no movie box to be moved, and no other
pub no_file_to_move : (known : Option (List ℕ))
    → IfSome known (λ xs. (o : OpenedFile) → IsFile (length xs) (here xs 0) o → ⊥) → HasToMove known
no_file_to_move None none = tt
no_file_to_move (Some xs) none = λ o file _. none o file

pub moved_later : (known : Option (List ℕ)) → IsMovieLater known → HasToMove known
moved_later None later = tt
moved_later (Some xs) later = λ o file first. later first
