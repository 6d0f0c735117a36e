-- The sample that the first call leaves is that which the second one writes as bytes.
use Rattle.std.proofs.Common.{rules}
use Rattle.io_streams.specs.Frames.{puts_filled}
use Rattle.expand.specs.Octets.{expanded}
use Rattle.expand.proofs.ExpanderFrameCoder.frame.Goals as goal

pub returns-clause-bytes : goal.returns-clause-bytes
unfolding expanded
returns-clause-bytes c told = puts_filled (rw (c.to_bytes.ensures, c.samples.ensures)) (search rules) (search rules)
