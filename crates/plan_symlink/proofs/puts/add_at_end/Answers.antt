use Rattle.std.proofs.Common.{◌≡◌, ℕ, List, ◌++◌, [], ◌∷◌, ap, sym, ◌∙◌, subst, rules}
use Rattle.longer_plans.specs.SymlinkPuts.{text_puts}
use Rattle.stable.specs.Puts.{with_put, Reserved}
use Rattle.v7_map.specs.Image.{inode_sector}
use Rattle.plan_name.specs.Creating.{CanBePut, map_puts}
use Rattle.plan_symlink.specs.TextBlocks.{text_list}
use Rattle.plan_symlink.proofs.Built.{built-at_end}
use Rattle.plan_symlink.proofs.Fitting.{fits-link_at_end}
use Rattle.plan_symlink.proofs.LinkMade.{link-room, link-past}
use Rattle.plan_symlink.proofs.puts.add_at_end.Goals as goal

pub returns-clause-planned : goal.returns-clause-planned
returns-clause-planned g c = λ tells strong dir name wanted cred d target new makes end lay others.
    let S = g.S.Stable in
    let image = S.image c.args.store.now in
    let past = link-past c.args.entry.now.index d end makes.place in
    built-at_end image dir name c.args.text.now wanted cred c.args.now d c.args.ino (text_list c.args.held.now) c.args.inode.now c.args.entry.now strong makes
    c.in_ok-_inode._inode (c.args.plan.now.puts ++ text_puts c.args.text.now 0 (text_list c.args.held.now)) c.add_link.new.plan.puts (S.image c.add_link.new.store) c.in_ok-_inode.ensures.looked.image
    (ap (λ (l : List (ℕ × List ℕ)). l ++ text_puts c.args.text.now 0 (text_list c.args.held.now)) c.requires.plan.0)
    (ap (λ (r : Reserved). r.puts) c.in_ok-_inode.ensures.added) (c.in_ok-_inode.ensures.put tells)
    end c.args.longer.now target new lay others c.in_ok-_slot._slot c.in_ok-_longer._longer (S.image c.add_new_slot.new.store) c.in_ok-_slot.ensures.looked.image
    c.add_new_slot.new.plan.puts c.add_map.new.plan.puts c.add_longer.new.plan.puts
    (ap (λ (r : Reserved). r.puts) c.in_ok-_slot.ensures.added) (c.in_ok-_slot.ensures.put tells)
    (ap (λ (r : Reserved). r.puts) c.add_map.ensures)
    (ap (λ (r : Reserved). r.puts) c.in_ok-_longer.ensures.added) (c.in_ok-_longer.ensures.put tells)
    (link-room image dir name c.args.text.now wanted cred c.args.now d c.args.ino strong makes.may.symlink past) past

pub returns-clause-built : goal.returns-clause-built
returns-clause-built g c = record {
  fits =
      let S = g.S.Stable in let longer = c.args.longer.now in
      let l0 = ap (λ (l : List (ℕ × List ℕ)). l ++ text_puts c.args.text.now 0 (text_list c.args.held.now)) c.requires.plan.0 in
      let l1 = ap (λ (r : Reserved). r.puts) c.in_ok-_inode.ensures.added ∙ ap (λ l. with_put l (inode_sector c.args.ino, c.in_ok-_inode._inode)) l0 in
      let l2 = ap (λ (r : Reserved). r.puts) c.in_ok-_slot.ensures.added ∙ ap (λ l. l ++ (c.args.entry.now.sector, c.in_ok-_slot._slot) ∷ []) l1 in
      let l3 = ap (λ (r : Reserved). r.puts) c.add_map.ensures ∙ ap (λ l. l ++ map_puts longer.map) l2 in
      let l4 = ap (λ (r : Reserved). r.puts) c.in_ok-_longer.ensures.added ∙ ap (λ l. with_put l (inode_sector c.args.entry.now.directory, c.in_ok-_longer._longer)) l3 in
      subst (CanBePut (S.sector_count c.args.store.now) 6) (sym l4)
      (fits-link_at_end (S.sector_count c.args.store.now) c.args.ino c.args.entry.now c.requires.within.0 c.args.text.now c.args.held.now c.requires.within.1 c.in_ok-_inode._inode c.in_ok-_slot._slot c.in_ok-_longer._longer longer c.requires.longer.0);
  room = search rules;
  cause = search rules;
  looked = search rules;
}
