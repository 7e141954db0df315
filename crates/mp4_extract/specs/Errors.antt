-- Why samples aren't extracted, from what the calls below are refused for.
use Rattle.std.specs.Prelude.{ℕ, Option}
use Rattle.mp4_codec.specs.declared.error.Error.{Error}
use Rattle.mp4_codec.specs.declared.error.Error.TheVariants.{OutOfMemory as no_memory}
use Rattle.mp4_source.specs.declared.file_error.FileError.{FileError}
use Rattle.mp4_source.specs.declared.file_error.FileError.TheVariants.{Mp4, Io}
use Rattle.mp4_extract.specs.declared.error.ExtractError.{ExtractError}
use Rattle.mp4_extract.specs.declared.error.ExtractError.TheVariants.{OutOfMemory, Track, Sample, Read}

-- what a track is refused for
abbrev pub of_track : Error → ExtractError
of_track no_memory = OutOfMemory
of_track e = Track e

-- what the sample with this number is refused for, which lies at this place where that is known
abbrev pub of_sample : ℕ → Option ℕ → Error → ExtractError
of_sample k place no_memory = OutOfMemory
of_sample k place e = Sample k place e

-- why the sample with this number isn't read
abbrev pub of_file : ℕ → Option ℕ → FileError → ExtractError
of_file k place (Mp4 e) = of_sample k place e
of_file k place (Io e) = Read k e
