-- The blocks that a new link takes: one for each sector of its text.
use Rattle.std.proofs.Common.{◌≡◌, ℕ, ◌+◌, ◌<◌, ◌≤◌, Bool, true, false, cond, ◌&&◌, List, length, refl, sym, ap, ◌∙◌, arith, leb, is_some, Some}
use Rattle.std.specs.List.{range_with_len, list_any, count_by}
use Rattle.std.specs.FinMap.{get}
use Rattle.files_model.specs.declared.attributes.Sattr.{Sattr}
use Rattle.files_model.specs.declared.credential.Cred.{Cred}
use Rattle.files_model.specs.Files.{Node, Sectors, sectors_of}
use Rattle.files_model.specs.NameRows.{new_link}
use Rattle.files_model.specs.Space.{is_held, map_blocks, node_usage}
use Rattle.files_model.proofs.Maps.{get-tabulated}
use Rattle.longer_plans.specs.SymlinkPuts.{text_sector}
use Rattle.longer_plans.proofs.HeldNode.{text-table}
use Rattle.plan_name.proofs.DirectoryUsage.{count_true, none_range}

module _ (wanted : Sattr) (cred : Cred) (text : List ℕ) (now : ℕ) (short : length text ≤ 1024) where
  n : Node
  n = new_link wanted cred text now

  held-is : (k : ℕ) → k < sectors_of (length text) → is_held (new_link wanted cred text now) k ≡ true
  held-is k lt = ap (λ (s : Sectors). is_some (get s k)) (sym (text-table text short))
      ∙ ap is_some (get-tabulated (λ j. Some (text_sector text j)) (sectors_of (length text)) k lt)

  no_map : map_blocks (new_link wanted cred text now) ≡ 0
  no_map = ap (λ b. cond b 1 0) (none_range (λ k. leb 10 k && is_held (new_link wanted cred text now) k) 0 (sectors_of (length text)) (λ b le lt. ap (λ t. t && is_held (new_link wanted cred text now) b) (above b (omega arith))))
    where
      above : (b : ℕ) → b < 10 → leb 10 b ≡ false
      above b lt = grind arith

  pub link-usage : node_usage (new_link wanted cred text now) ≡ sectors_of (length text)
  link-usage =
      let a : count_by (is_held (new_link wanted cred text now)) (range_with_len 0 (sectors_of (length text))) ≡ sectors_of (length text) =
      count_true (is_held (new_link wanted cred text now)) 0 (sectors_of (length text)) (λ b le lt. held-is b (omega arith)) in
      let b = no_map in omega arith
