-- Where a sample lies, and when it is decoded and shown: what the tables say of a sample is a Place.
use Rattle.mp4_samples.specs.declared.sample.SamplePlace.{SamplePlace}
use Rattle.mp4_samples.specs.declared.sample.Place.{Place}

-- the place that a lookup answered, without what it cost
abbrev pub place_of : SamplePlace → Place
place_of p = record {
  offset = p.offset;
  size = p.size;
  start_time = p.start_time;
  duration = p.duration;
  rendering_offset = p.rendering_offset;
  is_sync = p.is_sync;
}
