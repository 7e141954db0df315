-- A track writer's fields, and what they say of its track.
use Rattle.mp4_mux.specs.declared.track_writer.TrackWriter.TheInside.{Inside}
use Rattle.mp4_mux.specs.Building.{Building, TrackFields, building_of, IsTrack}

abbrev pub fields_of : Inside → TrackFields
fields_of w =
    record {
      config = w.config;
      movie_timescale = w.movie_timescale;
      samples = w.samples;
      chunks = w.chunks.items;
      bytes = w.pending.items;
      pending_duration = w.pending_duration;
      durations = w.durations;
      last = w.last;
      closed_count = w.closed;
    }

abbrev pub track_view : Inside → Building
track_view w = building_of (fields_of w)

abbrev pub IsTrackWriter : Inside → Type 0
IsTrackWriter w = IsTrack (fields_of w)
