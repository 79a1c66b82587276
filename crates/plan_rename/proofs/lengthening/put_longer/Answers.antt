use Rattle.std.proofs.Common.{◌≡◌, ℕ, ◌/◌, Bool, true, List, Option, refl, ap, sym, subst, ◌∙◌, arith, IsSomeAnd, rules}
use Rattle.index_sets.specs.Free.{is_free}
use Rattle.name_plans.proofs.CreatingSets.{taken-only}
use Rattle.stable.specs.Puts.{Reserved}
use Rattle.stable.specs.Store.{Image}
use Rattle.v7_map.specs.Frame.{frame}
use Rattle.v7_map.specs.Weak.{IsStrong}
use Rattle.plan_name.specs.Creating.{CanBePut}
use Rattle.plan_name.specs.LayingOut.{LaysLonger, new_list}
use Rattle.plan_name.specs.declared.laying_out.Laid.{Laid}
use Rattle.rename_puts.specs.Renamed.{asked_of, LengthensName, IsPlannedLonger}
use Rattle.rename_puts.specs.declared.slots.Moved.{Moved}
use Rattle.plan_rename.proofs.Lengthened.{may-grow, lengthens, longer-planned}
use Rattle.plan_rename.proofs.lengthening.put_longer.Goals as goal

pub returns-in_default-clause-planned : goal.returns-in_default-clause-planned
returns-in_default-clause-planned g c = λ tells strong are call x.
    let image : Image = g.S.Stable.image c.args.store.now in
    let growing = c.args.growing.now in
    absurd (subst (λ (o : Option Laid). IsSomeAnd o (LaysLonger image call.to.ino (growing.inode.size / 16))) c.in_default.is
    (c.in_ok-laid.ensures.lays tells call.to.ino c.args.sets.now.inodes (may-grow image call c.args.now growing strong x c.args.sets.now.blocks c.args.sets.now.inodes are)))

pub returns-clause-planned : goal.returns-clause-planned
returns-clause-planned g c = λ tells strong are call x.
    let S = g.S.Stable in
    let image : Image = S.image c.args.store.now in
    let growing = c.args.growing.now in
    let laid = c.in-Some.laid in
    let same : S.image c.lay_out.new.store ≡ image = c.in_ok-laid.ensures.looked.image in
    let moved : Moved = record { old = growing.old; new = record { directory = growing.to; index = growing.inode.size / 16; sector = laid.sector }; slot = growing.slot } in
    let lays : LaysLonger image call.to.ino (growing.inode.size / 16) laid = subst (λ (o : Option Laid). IsSomeAnd o (LaysLonger image call.to.ino (growing.inode.size / 16))) c.in-Some.is
    (c.in_ok-laid.ensures.lays tells call.to.ino c.args.sets.now.inodes (may-grow image call c.args.now growing strong x c.args.sets.now.blocks c.args.sets.now.inodes are)) in
    let put = subst (λ (m : Image). LengthensName m call c.args.now moved laid.longer lays.0 (new_list laid.new) → IsPlannedLonger m (asked_of call) c.args.now (new_list laid.new) c.add_longer_move.new.plan.puts) same
    (c.in_ok-add_longer_move.ensures.planned tells (subst (λ (m : Image). IsStrong (frame m)) (sym same) strong) call lays.0 (new_list laid.new)) (lengthens image call c.args.now growing strong x laid lays) in
    let said = c.done.ensures in
    longer-planned image call c.args.now growing strong x c.args.sets.now record { blocks = c.take_new.new.blocks; inodes = c.args.sets.now.inodes } (new_list laid.new) c.done.result are c.take_new.ensures refl
    (subst (IsPlannedLonger image (asked_of call) c.args.now (new_list laid.new)) (sym (ap (λ (r : Reserved). r.puts) said.plan)) put) said.reply said.blocks said.inode

pub returns-clause-takes : goal.returns-clause-takes
returns-clause-takes g c = record {
  takes = record {
    blocks = λ k h. taken-only (new_list c.in-Some.laid.new) c.args.sets.now.blocks k (subst (λ (free : List Bool). is_free free k ≡ true) c.take_new.ensures h);
    numbers = refl;
  };
  kept = search rules;
}

pub returns-clause-shape : goal.returns-clause-shape
returns-clause-shape g c = record {
  fits =
      subst (CanBePut (g.S.Stable.sector_count c.args.store.now) 5) (sym (ap (λ (r : Reserved). r.puts) c.done.ensures.plan))
      (subst (λ n. CanBePut n 5 c.add_longer_move.new.plan.puts) c.in_ok-laid.ensures.looked.sectors c.in_ok-add_longer_move.ensures.built.fits);
  form = search rules;
  room = let room = ap (λ (r : Reserved). r.room) c.done.ensures.plan ∙ c.in_ok-add_longer_move.ensures.built.room ∙ ap (λ (r : Reserved). r.room) c.in_ok-plan.ensures in omega arith;
  cause = search rules;
  looked = search rules;
}
