-- What a writer keeps of a movie in a sink, and which states it may have by that.
use Rattle.std.specs.Prelude.{◌≡◌, ℕ, Bool, false, List, [], Option, Some, None}
use Rattle.mp4_mux.specs.declared.config.Mp4Config.{Mp4Config}
use Rattle.mp4_mux.specs.Media.{Media, KeptMedia, MayBe}
use Rattle.mp4_mux.specs.Writing.{WriterState}
use Rattle.mp4_mux.specs.Parts.{Parts, state_of, IsWriting}

-- what a writer keeps of a movie in a sink
pub record KeptMovie : Type 0 where
  -- how many bytes the sink had when it was handed in
  pub front : ℕ
  -- the place of mdat
  pub mdat : ℕ
  pub config : Mp4Config
  pub media : KeptMedia
  pub ended : Bool
  -- whether the sink has refused a call
  pub failed : Bool

-- the same, where the data are these
abbrev pub parts_of : KeptMovie → Media → Parts
parts_of w held = record { front = w.front; mdat = w.mdat; config = w.config; media = held; ended = w.ended }

-- A writer may have this state: data that its sink may have agree with what is kept, and say it. Where the bytes of the
-- sink are known, it is the only one.
pub record MayHold (w : KeptMovie) (st : WriterState) : Type 0 where
  pub goes_on : w.failed ≡ false
  pub held : Media
  pub may_be : MayBe w.media held
  pub writing : IsWriting (parts_of w held)
  pub state : state_of (parts_of w held) ≡ st

-- it has a state, unless its sink has refused a call
abbrev pub IsKeptMovie : KeptMovie → Type 0
IsKeptMovie w = w.failed ≡ false → (st : WriterState) × MayHold w st

-- the data where the bytes of the sink are known
abbrev pub known_bytes : Option (List ℕ) → List ℕ
known_bytes None = []
known_bytes (Some bytes) = bytes

abbrev pub known_data : KeptMedia → Media
known_data m = record { buffer = known_bytes m.contents; tracks = m.tracks; written = m.written }

-- and the state, which is then the only one
abbrev pub known_state : KeptMovie → WriterState
known_state w = state_of (parts_of w (known_data w.media))
