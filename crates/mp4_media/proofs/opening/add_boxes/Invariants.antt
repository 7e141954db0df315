use Rattle.std.proofs.Common.{◌≡◌, ◌-◌, ◌≤◌, length}
use Rattle.std.specs.Prelude.{IfSome}
use Rattle.mp4_codec.specs.Cursor.{here}
use Rattle.mp4_media.specs.MovieTracks.{HaveFirstSamples}
use Rattle.mp4_media.proofs.TakingMemory.{AreBoxesTo}
use Rattle.mp4_media.proofs.Walking.{Scanning}
use Rattle.mp4_media.proofs.opening.add_boxes.Given as goal

-- Where the bytes are known, these are their boxes so far. The source has the bytes that it had.
abbrev pub invariant-loop : goal.invariant-loop
invariant-loop g l = record {
  scanning : IfSome (g.S.ByteSource.contents l.fn.reader.source) (λ bytes.
      Scanning l.size (here bytes l.fn.reader.position) l.found (here bytes l.reader.position));
  before : IfSome (g.S.ByteSource.contents l.fn.reader.source) (λ bytes.
      AreBoxesTo l.size bytes l.fn.reader.position l.reader.position);
  numbered : IfSome l.found.moov (λ m. HaveFirstSamples m.traks);
  places : length l.found.moof_places ≡ length l.found.moofs;
  onward : l.fn.reader.position ≤ l.reader.position;
  contents : g.S.ByteSource.contents l.reader.source ≡ g.S.ByteSource.contents l.fn.reader.source;
  can_refuse : g.S.ByteSource.can_refuse l.reader.source ≡ g.S.ByteSource.can_refuse l.fn.reader.source;
  same_len : l.reader.len ≡ l.fn.reader.len;
}

abbrev pub decreases-loop : goal.decreases-loop
decreases-loop g l = l.size - l.reader.position
