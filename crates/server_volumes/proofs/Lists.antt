-- Several volumes, one after the other.
use Rattle.std.proofs.Common.{arith, ◌≡◌, ◌∙◌, ℕ, suc, ◌+◌, List, [], ◌∷◌, ◌++◌, length, refl, sym, ap, subst, append_assoc, append-nil}
use Rattle.std.specs.List.{AllByRecursion}
use Rattle.stable.specs.Counts.{RoseBy}
use Rattle.rig.specs.declared.rig.Rig.{Ghosts}
use Rattle.presto_unit.specs.declared.presto.Presto.{Presto}
use Rattle.volume.specs.Rests.{Rests}
use Rattle.volume.specs.declared.mounted.Volume.{Volume}
use Rattle.run_lines.specs.Overlays.{unit_store}
use Rattle.nfs_worker.specs.Account.{Hold}
use Rattle.nfs_worker.specs.Volumes.{EachVolume}
use Rattle.server_volumes.specs.Ends.{EachEnds, EachServed, Ends, IsUsed}
use Rattle.server_volumes.specs.Lines.{start_lines, starts_lines}
use Rattle.server_volumes.specs.Opens.{EachOpen, IsOpenOver}
use Rattle.server_volumes.specs.Starts.{Start}
use Rattle.server_volumes.specs.declared.opening.OpenOptions.{OpenOptions}
use Rattle.server_volumes.specs.declared.stopping.Stopped.{Stopped}

-- what one more volume says
pub lines_more : (n : ℕ) (starts : List Start) (start : Start) → starts_lines n (starts ++ start ∷ []) ≡ starts_lines n starts ++ start_lines (n + length starts) start
lines_more n [] start =
    let here : n ≡ n + 0 = omega arith in
    append-nil (start_lines n start) ∙ ap (λ (m : ℕ). start_lines m start) here
lines_more n (first ∷ starts) start =
    let here : (n + 1) + length starts ≡ n + length (first ∷ starts) = omega arith in
    let more : starts_lines (n + 1) (starts ++ start ∷ []) ≡ starts_lines (n + 1) starts ++ start_lines (n + length (first ∷ starts)) start =
    lines_more (n + 1) starts start ∙ ap (λ (m : ℕ). starts_lines (n + 1) starts ++ start_lines m start) here in
    ap (λ (rest : List (List ℕ)). start_lines n first ++ rest) more ∙ sym (append_assoc (start_lines n first) (starts_lines (n + 1) starts) (start_lines (n + length (first ∷ starts)) start))

module _ {R : Type 0} (r : Ghosts R) (options : OpenOptions) where
  pub open_more : (rigs : List R) (volumes : List (Volume (Presto R r))) (starts : List Start) (rig : R) (volume : Volume (Presto R r)) (start : Start)
      → EachOpen r options rigs volumes starts → IsOpenOver r options rig volume start → EachOpen r options (rigs ++ rig ∷ []) (volumes ++ volume ∷ []) (starts ++ start ∷ [])
  open_more [] [] [] rig volume start each over = (over, tt)
  open_more (r0 ∷ rigs) (v0 ∷ volumes) (s0 ∷ starts) rig volume start each over = (each.0, open_more rigs volumes starts rig volume start each.1 over)
  open_more [] [] (s0 ∷ starts) rig volume start each over = absurd each
  open_more [] (v0 ∷ volumes) starts rig volume start each over = absurd each
  open_more (r0 ∷ rigs) [] starts rig volume start each over = absurd each
  open_more (r0 ∷ rigs) (v0 ∷ volumes) [] rig volume start each over = absurd each

  pub open_rigs : (rigs : List R) (volumes : List (Volume (Presto R r))) (starts : List Start) → EachOpen r options rigs volumes starts → length rigs ≡ length volumes
  open_rigs [] [] [] each = refl
  open_rigs (r0 ∷ rigs) (v0 ∷ volumes) (s0 ∷ starts) each = ap suc (open_rigs rigs volumes starts each.1)
  open_rigs [] [] (s0 ∷ starts) each = absurd each
  open_rigs [] (v0 ∷ volumes) starts each = absurd each
  open_rigs (r0 ∷ rigs) [] starts each = absurd each
  open_rigs (r0 ∷ rigs) (v0 ∷ volumes) [] each = absurd each

  pub open_starts : (rigs : List R) (volumes : List (Volume (Presto R r))) (starts : List Start) → EachOpen r options rigs volumes starts → length starts ≡ length volumes
  open_starts [] [] [] each = refl
  open_starts (r0 ∷ rigs) (v0 ∷ volumes) (s0 ∷ starts) each = ap suc (open_starts rigs volumes starts each.1)
  open_starts [] [] (s0 ∷ starts) each = absurd each
  open_starts [] (v0 ∷ volumes) starts each = absurd each
  open_starts (r0 ∷ rigs) [] starts each = absurd each
  open_starts (r0 ∷ rigs) (v0 ∷ volumes) [] each = absurd each

  -- each is at rest
  pub open_rest : (rigs : List R) (volumes : List (Volume (Presto R r))) (starts : List Start) → EachOpen r options rigs volumes starts → AllByRecursion (Rests (unit_store r)) volumes
  open_rest [] [] [] each = tt
  open_rest (r0 ∷ rigs) (v0 ∷ volumes) (s0 ∷ starts) each = (each.0.on.rest, open_rest rigs volumes starts each.1)
  open_rest [] [] (s0 ∷ starts) each = absurd each
  open_rest [] (v0 ∷ volumes) starts each = absurd each
  open_rest (r0 ∷ rigs) [] starts each = absurd each
  open_rest (r0 ∷ rigs) (v0 ∷ volumes) [] each = absurd each

module _ {R : Type 0} (r : Ghosts R) where
  pub ends_more : (n : ℕ) (volumes : List (Volume (Presto R r))) (backs : List (ℕ × R)) (more : List Stopped) (volume : Volume (Presto R r)) (rig : R) (stopped : Stopped)
      → EachEnds r n volumes backs more → Ends r volume rig stopped → EachEnds r n (volumes ++ volume ∷ []) (backs ++ (n + length volumes, rig) ∷ []) (more ++ stopped ∷ [])
  ends_more n [] [] [] volume rig stopped each ends = (omega arith, ends, tt)
  ends_more n (v0 ∷ volumes) (b0 ∷ backs) (s0 ∷ more) volume rig stopped each ends =
      let here : (n + 1) + length volumes ≡ n + length (v0 ∷ volumes) = omega arith in
      (each.0, each.1, subst (λ (k : ℕ). EachEnds r (n + 1) (volumes ++ volume ∷ []) (backs ++ (k, rig) ∷ []) (more ++ stopped ∷ [])) here (ends_more (n + 1) volumes backs more volume rig stopped each.2 ends))
  ends_more n [] [] (s0 ∷ more) volume rig stopped each ends = absurd each
  ends_more n [] (b0 ∷ backs) more volume rig stopped each ends = absurd each
  ends_more n (v0 ∷ volumes) [] more volume rig stopped each ends = absurd each
  ends_more n (v0 ∷ volumes) (b0 ∷ backs) [] volume rig stopped each ends = absurd each

  pub ends_length : (n : ℕ) (volumes : List (Volume (Presto R r))) (backs : List (ℕ × R)) (more : List Stopped) → EachEnds r n volumes backs more → length more ≡ length volumes
  ends_length n [] [] [] each = refl
  ends_length n (v0 ∷ volumes) (b0 ∷ backs) (s0 ∷ more) each = ap suc (ends_length (n + 1) volumes backs more each.2)
  ends_length n [] [] (s0 ∷ more) each = absurd each
  ends_length n [] (b0 ∷ backs) more each = absurd each
  ends_length n (v0 ∷ volumes) [] more each = absurd each
  ends_length n (v0 ∷ volumes) (b0 ∷ backs) [] each = absurd each
