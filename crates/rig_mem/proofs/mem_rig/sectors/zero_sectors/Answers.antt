use Rattle.std.proofs.Common.{◌≡◌, sym, ◌∙◌, ap, [], ◌∷◌, ◌++◌, List, ℕ, replicate, arith}
use Rattle.rig_mem.proofs.Sectors.{replicate_more}
use Rattle.rig_mem.proofs.mem_rig.sectors.zero_sectors.Goals as goal

pub loop-i-preserved : goal.loop-i-preserved
loop-i-preserved c =
    let pushed : c.push.new.self.items ≡ c.loop-i.sectors.items ++ c.filled-zeros.result ∷ [] = c.in_ok-push.ensures.items in
    pushed ∙ ap (λ (l : List (List ℕ)). l ++ c.filled-zeros.result ∷ []) c.loop-i.invariant
    ∙ ap (λ (x : List ℕ). replicate c.loop-i.i (replicate 512 0) ++ x ∷ []) c.filled-zeros.ensures.is
    ∙ sym (replicate_more c.loop-i.i (replicate 512 0))

pub returns : goal.returns
returns c =
    let all : c.loop-i.i ≡ c.args.count = omega arith in
    c.loop-i.invariant ∙ ap (λ (n : ℕ). replicate n (replicate 512 0)) all
