use Rattle.std.proofs.Common.{◌≡◌, refl}
use Rattle.saying.specs.Entries.{byte_count}
use Rattle.saying.proofs.EntryLaws.{parted}
use Rattle.saying.proofs.entries.EntriesIterator.next.Goals as goal

-- src/entries.rt:27:5
pub returns-clause-steps : goal.returns-clause-steps
returns-clause-steps c =
    let k = c.args.self.now.label in
    let s = c.args.self.now.rest.now in
    let first = c.in_ok-label.ensures.cases in
    let second = c.in_ok-count.ensures.cases in
    let third = c.in_ok-bytes.ensures.cases in
    let n : c.from_le_bytes.result ≡ byte_count k s = rw (← first.2, ← second.0) c.from_le_bytes.ensures in
    let p = parted k 4 c.from_le_bytes.result s first.2 second.1 third.1 third.2 in
    let q = rw n at p in
    (first.1, q.0, refl, q.1)
