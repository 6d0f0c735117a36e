-- The samples of all octets, and behind one another the bytes of all samples: what octet after octet gives (`first_expanded`).
use Rattle.std.specs.Prelude.{ℕ, ◌+◌, ◌*◌, ◌≡◌, length, take}
use Rattle.std.proofs.Common.{rules, refl, ap, sym, ◌∙◌, arith, length-take-le}
use Rattle.std.proofs.lemmas.List.{take_at}
use Rattle.standard.specs.Alaw.{alaw_samples}
use Rattle.standard.specs.Files.{file_bytes}
use Rattle.io_streams.specs.Frames.{puts_filled, puts_part}
use Rattle.expand.specs.Octets.{expanded, first_expanded}
use Rattle.expand.proofs.ExpanderFrameCoder.code.Goals as goal

pub returns-clause-codes : goal.returns-clause-codes
returns-clause-codes c told =
    let n = c.args.frames in
    let own : length c.samples.new.samples ≡ n = search rules in
    let room : length (take (2 * n) c.args.out.now) ≡ 2 * n = length-take-le (2 * n) c.args.out.now c.requires.room.1 in
    let size : length c.to_bytes.new.bytes ≡ 2 * n = search rules in
    let text : c.to_bytes.new.bytes ≡ file_bytes (alaw_samples (take n c.args.octets.now))
    = c.to_bytes.ensures ∙ ap file_bytes (take_at c.samples.new.samples _ n own ∙ c.samples.ensures) in
    let law = first_expanded n c.args.octets.now (omega (arith, c.requires.room.0)) in
    let end : 0 + 2 * n ≡ 2 * n = omega arith in
    record {
      state = refl;
      bytes = rw end at (puts_part 0 (2 * n) (omega (arith, c.requires.room.1)) (omega arith)
          (puts_filled (text ∙ sym law) (size ∙ sym room) (sym room)));
    }
