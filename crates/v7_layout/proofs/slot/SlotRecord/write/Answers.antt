use Rattle.std.proofs.Common.{◌≡◌, ℕ, ◌+◌, List, ◌++◌, length, take, sym, ap, ◌∙◌, arith}
use Rattle.v7_layout.specs.Written.{slot_bytes}
use Rattle.v7_layout.proofs.Back.{whole}
use Rattle.v7_layout.proofs.RoundTrip.{slot-reads_back}
use Rattle.v7_layout.proofs.slot.SlotRecord.write.Goals as goal

pub returns-clause-bytes : goal.returns-clause-bytes
unfolding slot_bytes
returns-clause-bytes c =
    let end : 2 + length c.args.self.now.name ≡ 16 = omega arith in
    whole 16 c.put_bytes.new.bytes (slot_bytes c.args.self.now) (omega arith)
    (ap (λ (n : ℕ). take n c.put_bytes.new.bytes) (sym end)
    ∙ c.put_bytes.ensures.front
    ∙ ap (λ (l : List ℕ). l ++ c.args.self.now.name) c.put_short.ensures.put.front)

pub returns-clause-reads_back : goal.returns-clause-reads_back
returns-clause-reads_back c =
    slot-reads_back c.put_bytes.new.bytes c.args.self.now (returns-clause-bytes c) c.put_short.ensures.fits (omega arith)
