-- What a walk over the boxes of a source finds, where its bytes are known and where they aren't.
use Rattle.std.proofs.Common.{◌≡◌, ◌∙◌, ℕ, ◌+◌, ◌-◌, ◌≤◌, ◌<◌, List, [], ◌∷◌, length, Option, Some, None, Result}
use Rattle.std.proofs.Common.{Ok, Err, refl, sym, ap, subst, inl, inr, Bool, true, false, ◌++◌, length-append}
use Rattle.std.proofs.lemmas.Bool.{false≢true, lt-ltb, le-ltb, le-leb, lt-leb}
use Rattle.std.specs.Prelude.{◌⊎◌, IfSome, IsTrue, ◌==◌}
use Rattle.mp4_codec.specs.declared.box_type.BoxType.{BoxType}
use Rattle.mp4_codec.specs.declared.header.BoxHeader.{BoxHeader}
use Rattle.mp4_codec.specs.Cause.{Cause, cause_of, end_of_data, invalid_data, ◌>>=◌}
use Rattle.mp4_codec.specs.Cursor.{Cursor, here, header_at}
use Rattle.mp4_codec.specs.Boxes.{box_at}
use Rattle.mp4_moof.specs.declared.moof.MoofBox.{MoofBox}
use Rattle.mp4_codec.specs.declared.error.Error.{Error}
use Rattle.mp4_codec.specs.declared.error.Error.TheVariants.{OutOfMemory}
use Rattle.mp4_source.specs.Answers.{IsIo, OnMp4, RefusesRead, told_as}
use Rattle.mp4_source.specs.Source.{OnOutOfMemory}
use Rattle.mp4_source.specs.declared.error.SourceError.{SourceError}
use Rattle.mp4_source.specs.declared.error.SourceError.TheVariants.{OutOfMemory as no_memory, Io as no_read}
use Rattle.mp4_source.specs.declared.file_error.FileError.{FileError}
use Rattle.mp4_source.specs.declared.file_error.FileError.TheVariants.{Mp4, Io}
use Rattle.mp4_media.specs.FileBoxes.{BoxContent}
use Rattle.mp4_media.specs.declared.opening.TopLevelBoxes.{TopLevelBoxes}
use Rattle.mp4_media.specs.FileBoxes.{meaning_of, read_as}
use Rattle.mp4_media.specs.Walk.{box_after_header, content_at, next_box_at, with_content, with_box, and_content}
use Rattle.mp4_media.specs.Walk.{and_found}
use Rattle.mp4_media.specs.Walk.{found_at, opened_at, opened_from}
use Rattle.mp4_media.proofs.Contents.{content-read, content-refused}

-- what follows of known bytes
pub of_known : {X : Type 0} (known : Option X) (P Q : X → Type 0) → IfSome known P → ((x : X) → P x → Q x)
    → IfSome known Q
of_known None P Q p f = tt
of_known (Some x) P Q p f = f x p

-- what holds of any bytes
pub all_known : {X : Type 0} (known : Option X) (P : X → Type 0) → ((x : X) → P x) → IfSome known P
all_known None P f = tt
all_known (Some x) P f = f x

-- the same of two facts
pub of_known_by : {X : Type 0} (known : Option X) (P R Q : X → Type 0) → IfSome known P → IfSome known R
    → ((x : X) → P x → R x → Q x) → IfSome known Q
of_known_by None P R Q p r f = tt
of_known_by (Some x) P R Q p r f = f x p r

-- A refusal of a step refuses what it is a step of.
pub refused_too : {Y W : Type 0} (can_refuse : Bool) (f : FileError) (answer : Result Y Cause) (all : Result W Cause)
    → ((c : Cause) → answer ≡ Err c → all ≡ Err c) → RefusesRead can_refuse f answer → RefusesRead can_refuse f all
refused_too can_refuse (Mp4 e) answer all h (inl memory) = inl memory
refused_too can_refuse (Mp4 e) answer all h (inr fault) = inr (h (cause_of e) fault)
refused_too can_refuse (Io e) answer all h a = a

-- A box that is read.
module _ {A : Type 0} (kind : A → BoxContent) (value : List ℕ → Result A Cause) (name : BoxType)
    (is : meaning_of name ≡ Some (read_as kind value)) (known : Option (List ℕ)) (size old new : ℕ) where
  content_is : (x : A) → IfSome known (λ bytes. box_at value size (here bytes old) ≡ Ok (x, here bytes new))
      → IfSome known (λ bytes. content_at (meaning_of name) size (here bytes old) ≡ Ok (kind x, here bytes new))
  content_is x read = of_known known _ _ read
      (λ bytes e. content-read kind value name is size (here bytes old) x (here bytes new) e)

  content_refused : (can_refuse : Bool) (f : FileError)
      → IfSome known (λ bytes. RefusesRead can_refuse f (box_at value size (here bytes old)))
      → IfSome known (λ bytes. RefusesRead can_refuse f (content_at (meaning_of name) size (here bytes old)))
  content_refused can_refuse f refused = of_known known _ _ refused
      (λ bytes a. refused_too can_refuse f _ _
      (λ c e. content-refused kind value name is size (here bytes old) c e) a)

  -- Such a box, added to what was found.
  module _ (found : TopLevelBoxes) (place : ℕ) where
    pub box_is_added : (x : A) → IfSome known (λ bytes. box_at value size (here bytes old) ≡ Ok (x, here bytes new))
        → IfSome known (λ bytes. (content_at (meaning_of name) size (here bytes old) >>= and_content found place)
        ≡ Ok (with_box found (record { place = place; content = kind x }), here bytes new))
    box_is_added x read = of_known known _ _ (content_is x read) (λ bytes e. rw e refl)

    pub box_is_refused : (can_refuse : Bool) (f : FileError)
        → IfSome known (λ bytes. RefusesRead can_refuse f (box_at value size (here bytes old)))
        → IfSome known (λ bytes. RefusesRead can_refuse f
        (content_at (meaning_of name) size (here bytes old) >>= and_content found place))
    box_is_refused can_refuse f refused = of_known known _ _ (content_refused can_refuse f refused)
        (λ bytes a. refused_too can_refuse f _ _ (λ c e. rw e refl) a)

-- A fragment more of what was found.
pub one_place_more : (place : ℕ) (m : MoofBox) (places : List ℕ) (moofs : List MoofBox) → length places ≡ length moofs
    → length (places ++ place ∷ []) ≡ length (moofs ++ m ∷ [])
one_place_more place m places moofs same =
    length-append places (place ∷ []) ∙ ap (λ n. n + 1) same ∙ sym (length-append moofs (m ∷ []))

-- THE NEXT BOX

module _ (size : ℕ) (place : Cursor) where
  -- no bytes are left before the file's end
  pub no_next : size ≤ place.position → next_box_at size place ≡ Ok (None, place)
  unfolding next_box_at
  no_next past = rw (le-leb size place.position past) refl

  pub short_rest : place.position < size → size < place.position + 8 → next_box_at size place ≡ Err end_of_data
  unfolding next_box_at
  short_rest below short = rw (lt-leb size place.position below, lt-ltb size (place.position + 8) short) refl

  module _ (below : place.position < size) (long : place.position + 8 ≤ size) where
    next_is : next_box_at size place ≡ (header_at place >>= λ x. box_after_header size place x.0 x.1)
    unfolding next_box_at
    next_is = rw (lt-leb size place.position below, le-ltb size (place.position + 8) long) refl

    pub no_head : (c : Cause) → header_at place ≡ Err c → next_box_at size place ≡ Err c
    no_head c e = next_is ∙ rw e refl

    module _ (h : BoxHeader) (after : Cursor) (head : header_at place ≡ Ok (h, after)) where
      after_head : next_box_at size place ≡ box_after_header size place h after
      after_head = next_is ∙ rw head refl

      pub open_end : h.size ≡ 0 → next_box_at size place ≡ Ok (None, place)
      open_end zero = after_head ∙ rw zero refl

      pub too_large : (h.size == 0) ≡ false → size < h.size → next_box_at size place ≡ Err invalid_data
      too_large some large = after_head ∙ rw (some, lt-ltb size h.size large) refl

      pub content_next : (h.size == 0) ≡ false → h.size ≤ size
          → next_box_at size place ≡ (content_at (meaning_of h.name) h.size after >>= with_content place.position)
      content_next some fits = after_head ∙ rw (some, le-ltb size h.size fits) refl

-- the next box, added to what was found
abbrev pub and_more : TopLevelBoxes × Cursor → Result (Bool × TopLevelBoxes × Cursor) Cause
and_more x = Ok (true, x.0, x.1)

pub next_added : (found : TopLevelBoxes) (place : ℕ) (r : Result (BoxContent × Cursor) Cause)
    → ((r >>= with_content place) >>= and_found found)
    ≡ ((r >>= and_content found place) >>= and_more)
next_added found place (Ok x) = refl
next_added found place (Err c) = refl

-- what opens is what was found
pub opened_by : (size : ℕ) (place : Cursor) (found : TopLevelBoxes) (end : ℕ) → found_at size place ≡ Ok (found, end)
    → opened_at size place ≡ opened_from found (end - place.position)
unfolding opened_at
opened_by size place found end e = rw e refl

pub none_found : (size : ℕ) (place : Cursor) (c : Cause) → found_at size place ≡ Err c → opened_at size place ≡ Err c
unfolding opened_at
none_found size place c e = rw e refl

-- an error of MP4 says which
pub same_mp4 : (e f : Error) → Mp4 e ≡ Mp4 f → e ≡ f
same_mp4 e f same = cc

-- a source that refuses no read is refused as its bytes are
pub refused_as_bytes : {Y : Type 0} (f : FileError) (e : Error) (answer : Result Y Cause) → OnMp4 f (λ x. e ≡ x)
    → RefusesRead false f answer → (e ≡ OutOfMemory) ⊎ (answer ≡ Err (cause_of e))
refused_as_bytes {Y} (Mp4 x) e answer same a =
    subst (λ y. (y ≡ OutOfMemory) ⊎ (answer ≡ Err (cause_of y))) (sym same) a
refused_as_bytes (Io x) e answer same a = absurd (false≢true a)

-- a refusal by the source, where it can refuse
pub refused_by_source : {Y : Type 0} (can_refuse : Bool) (f : FileError) (answer : Result Y Cause) → IsIo f
    → IsTrue can_refuse → RefusesRead can_refuse f answer
refused_by_source can_refuse (Mp4 x) answer io can = absurd io
refused_by_source can_refuse (Io x) answer io can = can

-- what is known where a source had no memory
pub memory_is_out : (e : SourceError) (P : Type 0) → OnOutOfMemory e P → told_as e ≡ Mp4 OutOfMemory → P
memory_is_out no_memory P p memory = p
memory_is_out (no_read io) P p memory = absurd cc

-- what is known where memory is out for bytes, which refuse no read
pub memory_of_bytes : {Y : Type 0} (f : FileError) (e : Error) (answer : Result Y Cause) (P : Type 0)
    → OnMp4 f (λ x. e ≡ x) → RefusesRead false f answer → (f ≡ Mp4 OutOfMemory → P) → e ≡ OutOfMemory → P
memory_of_bytes (Mp4 x) e answer P same a p memory = p (ap Mp4 (sym same ∙ memory))
memory_of_bytes (Io x) e answer P same a p memory = absurd (false≢true a)

-- a source that refused a read had memory
pub io_has_memory : (f : FileError) (P : Type 0) → IsIo f → f ≡ Mp4 OutOfMemory → P
io_has_memory (Mp4 x) P io memory = absurd io
io_has_memory (Io x) P io memory = absurd cc
