use Rattle.std.proofs.Common.{◌≡◌, Ok, is_ok, ap, rules}
use Rattle.pair.specs.Calls.{open_answer, open_of}
use Rattle.pair.proofs.NothingLost.{opened_transmits}
use Rattle.bench.proofs.Bench.open.Goals as goal

pub returns-clause-transmits : goal.returns-clause-transmits
returns-clause-transmits g c =
    let o = c.args.opening in
    let m = c.args.self.now.meaning in
    let accepted : open_answer o m ≡ Ok tt = search rules in
    let left : c.start.new.self.meaning ≡ open_of o m = search rules in
    λ h. rw left (opened_transmits o m (ap is_ok accepted))
