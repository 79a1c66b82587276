use Rattle.std.proofs.Common.{◌≡◌, ℕ, List, ◌++◌, [], ◌∷◌, ap, sym, ◌∙◌, subst, rules}
use Rattle.longer_plans.specs.SymlinkPuts.{text_puts}
use Rattle.stable.specs.Puts.{with_put, Reserved}
use Rattle.v7_map.specs.Image.{inode_sector}
use Rattle.plan_name.specs.Creating.{CanBePut}
use Rattle.plan_symlink.specs.TextBlocks.{text_list}
use Rattle.plan_symlink.proofs.Built.{built-in_place}
use Rattle.plan_symlink.proofs.Fitting.{fits-link}
use Rattle.plan_symlink.proofs.puts.add_in_place.Goals as goal

pub returns-clause-planned : goal.returns-clause-planned
returns-clause-planned g c = λ tells strong dir name wanted cred d makes inside stands.
    let S = g.S.Stable in
    let image = S.image c.args.store.now in
    built-in_place image dir name c.args.text.now wanted cred c.args.now d c.args.ino (text_list c.args.held.now) c.args.inode.now c.args.entry.now strong makes
    c.in_ok-_inode._inode (c.args.plan.now.puts ++ text_puts c.args.text.now 0 (text_list c.args.held.now)) c.add_link.new.plan.puts (S.image c.add_link.new.store) c.in_ok-_inode.ensures.looked.image
    (ap (λ (l : List (ℕ × List ℕ)). l ++ text_puts c.args.text.now 0 (text_list c.args.held.now)) c.requires.plan.0)
    (ap (λ (r : Reserved). r.puts) c.in_ok-_inode.ensures.added) (c.in_ok-_inode.ensures.put tells)
    inside stands c.in_ok-_slot._slot c.in_ok-_times._times (S.image c.add_slot.new.store) c.in_ok-_slot.ensures.looked.image c.add_slot.new.plan.puts c.add_times.new.plan.puts
    (ap (λ (r : Reserved). r.puts) c.in_ok-_slot.ensures.added) (c.in_ok-_slot.ensures.put tells)
    (ap (λ (r : Reserved). r.puts) c.in_ok-_times.ensures.added) (c.in_ok-_times.ensures.put tells)

pub returns-clause-built : goal.returns-clause-built
returns-clause-built g c = record {
  fits =
      let S = g.S.Stable in
      let l0 = ap (λ (l : List (ℕ × List ℕ)). l ++ text_puts c.args.text.now 0 (text_list c.args.held.now)) c.requires.plan.0 in
      let l1 = ap (λ (r : Reserved). r.puts) c.in_ok-_inode.ensures.added ∙ ap (λ l. with_put l (inode_sector c.args.ino, c.in_ok-_inode._inode)) l0 in
      let l2 = ap (λ (r : Reserved). r.puts) c.in_ok-_slot.ensures.added ∙ ap (λ l. l ++ (c.args.entry.now.sector, c.in_ok-_slot._slot) ∷ []) l1 in
      let l3 = ap (λ (r : Reserved). r.puts) c.in_ok-_times.ensures.added ∙ ap (λ l. with_put l (inode_sector c.args.entry.now.directory, c.in_ok-_times._times)) l2 in
      subst (CanBePut (S.sector_count c.args.store.now) 5) (sym l3)
      (fits-link (S.sector_count c.args.store.now) c.args.ino c.args.entry.now c.requires.within.0 c.args.text.now c.args.held.now c.requires.within.1 c.in_ok-_inode._inode c.in_ok-_slot._slot c.in_ok-_times._times);
  room = search rules;
  cause = search rules;
  looked = search rules;
}
