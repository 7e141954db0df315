-- What an opened file says of its movie (ISO/IEC 14496-12, 4.3, 8.2.2 and 8.8.4).
use Rattle.std.specs.Prelude.{List, length, map, min, replicate, nat_lt, if◌then◌else◌}
use Rattle.std.specs.HashMap.{hash_map_len}
use Rattle.mp4_codec.specs.declared.four_cc.FourCC.{FourCC}
use Rattle.mp4_media.specs.declared.reader.Mp4Reader.{Mp4Reader}
use Rattle.mp4_c.specs.declared.answer.Answer.{Answer}
use Rattle.mp4_c.specs.declared.configs.Brand.{Brand}
use Rattle.mp4_c.specs.declared.movie.MovieInfo.{MovieInfo}
use Rattle.mp4_c.specs.Answers.{done}
use Rattle.mp4_c.specs.Replies.{Gave, Reply}
use Rattle.mp4_c.specs.Rooms.{filled}

-- what a movie says of itself
abbrev pub info_of : Mp4Reader → MovieInfo
info_of m = record {
  size = m.movie.size;
  duration = m.movie.moov.mvhd.duration;
  creation_time = m.movie.moov.mvhd.creation_time;
  modification_time = m.movie.moov.mvhd.modification_time;
  track_count = hash_map_len m.movie.tracks;
  brand_count = length m.movie.ftyp.compatible_brands;
  timescale = m.movie.moov.mvhd.timescale;
  minor_version = m.movie.ftyp.minor_version;
  major_brand = m.movie.ftyp.major_brand.value;
  is_fragmented = if nat_lt 0 (length m.movie.moofs) then 1 else 0;
  header_version = m.movie.moov.mvhd.version;
  reserved = replicate 2 0;
}

-- a call has filled in what an opened file says of its movie
abbrev pub GaveInfo : Mp4Reader → MovieInfo → MovieInfo → Answer → Type 0
GaveInfo m old new answer = Gave (record { answer = done (hash_map_len m.movie.tracks) 1; room = info_of m }) new answer

-- a specification that a file follows, by its four bytes
abbrev pub brand_of : FourCC → Brand
brand_of f = record { code = f.value }

-- what is replied of the compatible brands: as many as there is room for, in their order
abbrev pub brands_reply : List FourCC → List Brand → Reply (List Brand)
brands_reply brands room = record {
  answer = done (length brands) (min (length room) (length brands));
  room = filled (map brand_of brands) room;
}

-- a call has filled in the compatible brands of an opened file
abbrev pub GaveBrands : Mp4Reader → List Brand → List Brand → Answer → Type 0
GaveBrands m old new answer = Gave (brands_reply m.movie.ftyp.compatible_brands old) new answer
