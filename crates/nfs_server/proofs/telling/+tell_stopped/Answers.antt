use Rattle.std.proofs.Common.{arith, ◌≡◌, ◌∙◌, ◌<◌, ◌≤◌, ◌+◌, ◌-◌, ℕ, false, [], ◌∷◌, List, drop, length, sym, ap}
use Rattle.std.proofs.Math.ListN.{get_or, take}
use Rattle.std.proofs.lemmas.List.{take_all}
use Rattle.stable.specs.declared.state.State.TheVariants.{Up}
use Rattle.nfs_server.specs.Course.{stopped_lines}
use Rattle.server_volumes.specs.Lines.{stopped_line}
use Rattle.server_volumes.specs.declared.stopping.Stopped.{Stopped}
use Rattle.run_lines.proofs.Sayings.{told_as, told_both, told_none}
use Rattle.nfs_server.proofs.telling.+tell_stopped.Goals as goal

no_stopped : (n : ℕ) (all : List Stopped) → length all < 1 → stopped_lines n all ≡ []
no_stopped n [] few = cc
no_stopped n (stopped ∷ more) few = absurd (omega (arith, few))

first_stopped : (n : ℕ) (all : List Stopped) (d : Stopped) → 1 ≤ length all
    → stopped_line n (get_or all 0 d).state (get_or all 0 d).dirty ∷ stopped_lines (n + 1) (take (length all - 1) (drop 1 all)) ≡ stopped_lines n all
first_stopped n [] d some = absurd (omega (arith, some))
first_stopped n (stopped ∷ more) d some = ap (λ (rest : List Stopped). stopped_line n stopped.state stopped.dirty ∷ stopped_lines (n + 1) rest) (take_all (length (stopped ∷ more) - 1) more (omega arith))

pub returns-in_default : goal.returns-in_default
returns-in_default g t c = told_as g.H.Host g.H.Say (sym (no_stopped c.args.number c.args.all.now c.in_default.len_below)) (told_none g.H.Host g.H.Say)

pub returns-in-len1-up : goal.returns-in-len1-up
returns-in-len1-up g t c =
    let all = c.args.all.now in
    let rest = stopped_lines (c.args.number + 1) (take (length all - 1) (drop 1 all)) in
    let d : Stopped = record { state = Up; dirty = 0; unwritten = false } in
    told_as g.H.Host g.H.Say (ap (λ (line : List ℕ). line ∷ rest) (c.as_str.ensures.value ∙ c.stopped_line-line.ensures) ∙ first_stopped c.args.number all d c.in-len1-up.len_at_least)
    (told_both g.H.Host g.H.Say (c.as_str.result.now ∷ []) rest c.tell.ensures c.tell_stopped.ensures)
