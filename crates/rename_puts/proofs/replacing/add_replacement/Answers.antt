use Rattle.std.proofs.Common.{◌≡◌, ℕ, ◌+◌, ◌<◌, ◌≤◌, true, List, [], ◌∷◌, ◌++◌, length, if◌then◌else◌, min, max, ap, sym, subst, ◌∙◌, arith, rules}
use Rattle.stable.specs.Puts.{put_all, with_put, Reserved}
use Rattle.stable.specs.Store.{Image}
use Rattle.v7_map.specs.Image.{is_inode, inode_at, inode_sector}
use Rattle.v7_map.specs.Plan.{PutsInode}
use Rattle.v7_strokes.specs.Entries.{inode_put}
use Rattle.v7_strokes.specs.Inodes.{ended_inode, unlinked_inode}
use Rattle.v7_strokes.specs.Last.{inode_puts}
use Rattle.v7_strokes.specs.Merged.{merged}
use Rattle.v7_strokes.proofs.Merging.{merged-with}
use Rattle.plan_name.specs.Creating.{CanBePut}
use Rattle.rename_puts.specs.Times.{AddsTimes, AreInodes, TimedWithin, listed, before, after}
use Rattle.rename_puts.proofs.BuiltReplacement.{built-replacement}
use Rattle.rename_puts.proofs.Numbers.{live-number}
use Rattle.rename_puts.proofs.Sides.{of-min, of-max, of-before, of-after, sides-few}
use Rattle.rename_puts.proofs.Steps.{one-more, can-equal}
use Rattle.rename_puts.proofs.replacing.add_replacement.Goals as goal

pub add_timed-requires-clause-within : goal.add_timed-requires-clause-within
add_timed-requires-clause-within g c =
    let S = g.S.Stable in
    let a = c.args.moved.now.old.directory in let b = c.args.moved.now.new.directory in
    let within = c.requires.within in
    subst (λ n. TimedWithin n c.before-first.result) (sym c.in_ok-add_moved.ensures.built.looked.sectors)
    (subst (TimedWithin (S.sector_count c.args.store.now)) (sym c.before-first.ensures)
    (of-before (λ d. inode_sector d < S.sector_count c.args.store.now) (min a b) (max a b) c.args.lost.now.node
    (of-min (λ d. inode_sector d < S.sector_count c.args.store.now) a b within.old.directory within.new.directory) (of-max (λ d. inode_sector d < S.sector_count c.args.store.now) a b within.old.directory within.new.directory)))

pub add_timed-requires-2-clause-within : goal.add_timed-requires-2-clause-within
add_timed-requires-2-clause-within g c =
    let S = g.S.Stable in
    let a = c.args.moved.now.old.directory in let b = c.args.moved.now.new.directory in
    let within = c.requires.within in
    subst (λ n. TimedWithin n c.after-last.result) (sym (c.in_ok-_node.ensures.looked.sectors ∙ c.in_ok-add_timed.ensures.looked.sectors ∙ c.in_ok-add_moved.ensures.built.looked.sectors))
    (subst (TimedWithin (S.sector_count c.args.store.now)) (sym c.after-last.ensures)
    (of-after (λ d. inode_sector d < S.sector_count c.args.store.now) (min a b) (max a b) c.args.lost.now.node
    (of-min (λ d. inode_sector d < S.sector_count c.args.store.now) a b within.old.directory within.new.directory) (of-max (λ d. inode_sector d < S.sector_count c.args.store.now) a b within.old.directory within.new.directory)))

pub returns-clause-built : goal.returns-clause-built
returns-clause-built g c = record {
  fits =
      let S = g.S.Stable in
      let a = c.args.moved.now.old.directory in let b = c.args.moved.now.new.directory in let r = c.args.lost.now.node in
      let n0 = c.in_ok-add_moved.ensures.built.looked.sectors in
      let n1 = c.in_ok-add_timed.ensures.looked.sectors ∙ n0 in
      let n2 = c.in_ok-_node.ensures.looked.sectors ∙ n1 in
      let few = sides-few (min a b) (max a b) r in
      let l1 : length (listed c.before-first.result) ≡ length (listed (before (min a b) (max a b) r)) = ap (λ t. length (listed t)) c.before-first.ensures in
      let l2 : length (listed c.after-last.result) ≡ length (listed (after (min a b) (max a b) r)) = ap (λ t. length (listed t)) c.after-last.ensures in
      let second = subst (λ n. CanBePut n (2 + length (listed c.before-first.result)) c.add_timed.new.plan.puts) n0
      (c.in_ok-add_timed.ensures.fits 2 (subst (λ n. CanBePut n 2 c.add_moved.new.plan.puts) (sym n0) c.in_ok-add_moved.ensures.built.fits)) in
      let third = subst (CanBePut (S.sector_count c.args.store.now) (2 + length (listed c.before-first.result) + 1)) (sym (ap (λ (q : Reserved). q.puts) c.in_ok-_node.ensures.added))
      (one-more (S.sector_count c.args.store.now) (2 + length (listed c.before-first.result)) c.add_timed.new.plan.puts (inode_sector r, c.in_ok-_node._node) second (omega arith) c.requires.node) in
      let last = subst (λ n. CanBePut n (2 + length (listed c.before-first.result) + 1 + length (listed c.after-last.result)) c.add_timed-2.new.plan.puts) n2
      (c.in_ok-add_timed-2.ensures.fits (2 + length (listed c.before-first.result) + 1) (subst (λ n. CanBePut n (2 + length (listed c.before-first.result) + 1) c.add_unlinked.new.plan.puts) (sym n2) third)) in
      can-equal (S.sector_count c.args.store.now) (2 + length (listed c.before-first.result) + 1 + length (listed c.after-last.result)) 5 c.add_timed-2.new.plan.puts (omega arith) last;
  room = search rules;
  cause = search rules;
  looked = search rules;
}

pub returns-clause-planned : goal.returns-clause-planned
returns-clause-planned g c = λ tells strong call x.
    let S = g.S.Stable in
    let image : Image = S.image c.args.store.now in
    let moved = c.args.moved.now in
    let a = moved.old.directory in let b = moved.new.directory in let r = c.args.lost.now.node in
    let e0 = c.in_ok-add_moved.ensures.built.looked.image in
    let e1 = c.in_ok-add_timed.ensures.looked.image ∙ e0 in
    let e2 = c.in_ok-_node.ensures.looked.image ∙ e1 in
    let n0 = c.in_ok-add_moved.ensures.built.looked.sectors in
    let n1 = c.in_ok-add_timed.ensures.looked.sectors ∙ n0 in
    let n2 = c.in_ok-_node.ensures.looked.sectors ∙ n1 in
    let h = c.in_ok-add_moved.ensures.moved tells in
    let raw : List (ℕ × List ℕ) = (moved.new.sector, h.new_bytes) ∷ (moved.old.sector, h.old_bytes) ∷ [] in
    let old : is_inode image a ≡ true = subst (λ d. is_inode image d ≡ true) (sym x.stands.old_directory) (live-number image call.from x.old_node strong x.replacement.live_from) in
    let new : is_inode image b ≡ true = subst (λ d. is_inode image d ≡ true) (sym x.stands.new_directory) (live-number image call.to x.new_node strong x.replacement.live_to) in
    let low = of-min (λ d. is_inode image d ≡ true) a b old new in let high = of-max (λ d. is_inode image d ≡ true) a b old new in
    let can0 = c.in_ok-add_moved.ensures.built.fits in
    let can1 = subst (λ n. CanBePut n (2 + length (listed c.before-first.result)) c.add_timed.new.plan.puts) n0 (c.in_ok-add_timed.ensures.fits 2 (subst (λ n. CanBePut n 2 c.add_moved.new.plan.puts) (sym n0) can0)) in
    let added = ap (λ (q : Reserved). q.puts) c.in_ok-_node.ensures.added in
    let can2 = subst (CanBePut (S.sector_count c.args.store.now) (2 + length (listed c.before-first.result) + 1)) (sym added)
    (one-more (S.sector_count c.args.store.now) (2 + length (listed c.before-first.result)) c.add_timed.new.plan.puts (inode_sector r, c.in_ok-_node._node) can1 (omega arith) c.requires.node) in
    let t : AddsTimes image c.args.now (listed (before (min a b) (max a b) r)) raw c.add_timed.new.plan.puts =
    subst (λ q. AddsTimes image c.args.now (listed q) raw c.add_timed.new.plan.puts) c.before-first.ensures
    (subst (λ (m : Image). AddsTimes m c.args.now (listed c.before-first.result) raw c.add_timed.new.plan.puts) e0
    (c.in_ok-add_timed.ensures.added tells 2 (subst (λ n. CanBePut n 2 c.add_moved.new.plan.puts) (sym n0) can0)
    (subst (λ (m : Image). AreInodes m c.before-first.result) (sym e0) (subst (AreInodes image) (sym c.before-first.ensures) (of-before (λ d. is_inode image d ≡ true) (min a b) (max a b) r low high))) raw h.all)) in
    let put : is_inode (put_all c.add_timed.new.plan.puts image) r ≡ true → PutsInode (put_all c.add_timed.new.plan.puts image) r c.in_ok-_node._node (if c.args.lost.now.last then ended_inode (inode_at (put_all c.add_timed.new.plan.puts image) r).generation else unlinked_inode (inode_at (put_all c.add_timed.new.plan.puts image) r) c.args.now) =
    subst (λ (m : Image). is_inode (put_all c.add_timed.new.plan.puts m) r ≡ true → PutsInode (put_all c.add_timed.new.plan.puts m) r c.in_ok-_node._node (if c.args.lost.now.last then ended_inode (inode_at (put_all c.add_timed.new.plan.puts m) r).generation else unlinked_inode (inode_at (put_all c.add_timed.new.plan.puts m) r) c.args.now)) e1 (c.in_ok-_node.ensures.put tells) in
    let many = (raw ++ inode_puts (listed (before (min a b) (max a b) r)) t.bytes) ++ inode_put r c.in_ok-_node._node ∷ [] in
    let listing : c.add_unlinked.new.plan.puts ≡ merged many = added ∙ ap (λ q. with_put q (inode_put r c.in_ok-_node._node)) t.puts ∙ sym (merged-with (raw ++ inode_puts (listed (before (min a b) (max a b) r)) t.bytes) (inode_put r c.in_ok-_node._node)) in
    let u : AddsTimes image c.args.now (listed (after (min a b) (max a b) r)) many c.add_timed-2.new.plan.puts =
    subst (λ q. AddsTimes image c.args.now (listed q) many c.add_timed-2.new.plan.puts) c.after-last.ensures
    (subst (λ (m : Image). AddsTimes m c.args.now (listed c.after-last.result) many c.add_timed-2.new.plan.puts) e2
    (c.in_ok-add_timed-2.ensures.added tells (2 + length (listed c.before-first.result) + 1) (subst (λ n. CanBePut n (2 + length (listed c.before-first.result) + 1) c.add_unlinked.new.plan.puts) (sym n2) can2)
    (subst (λ (m : Image). AreInodes m c.after-last.result) (sym e2) (subst (AreInodes image) (sym c.after-last.ensures) (of-after (λ d. is_inode image d ≡ true) (min a b) (max a b) r low high))) many listing)) in
    built-replacement image call c.args.now moved c.args.lost.now strong x c.add_moved.new.plan.puts h c.add_timed.new.plan.puts c.add_unlinked.new.plan.puts c.add_timed-2.new.plan.puts c.in_ok-_node._node t can1.past added put u
