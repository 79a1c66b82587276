use Rattle.std.proofs.Common.{arith, ◌+◌, ◌≡◌, ◌≤◌, ◌<◌, min, not, length, true, false, refl, sym, ap, subst, ◌∙◌, ℕ}
use Rattle.std.specs.List.{list_any}
use Rattle.files_model.specs.declared.attributes.Attr.{Attr}
use Rattle.files_model.specs.Batch.{touches}
use Rattle.files_model.specs.Space.{size_limit}
use Rattle.files_model.specs.Step.{is_refused}
use Rattle.stable.specs.Puts.{Reserved}
use Rattle.stable.specs.Store.{Image}
use Rattle.v7_map.specs.Image.{IsImage}
use Rattle.v7_map.proofs.Whole.{as_long, whole_image}
use Rattle.plan_file.specs.Accepted.{kept_of}
use Rattle.plan_file.specs.declared.draft.Draft.{Draft}
use Rattle.plan_file.specs.Draft.{holds}
use Rattle.plan_file.specs.Contents.{Fits, touched_below}
use Rattle.plan_file.specs.Planned.{CanBePut, IsPlanned, IsReady, room_for}
use Rattle.plan_file.specs.Started.{IsFirst}
use Rattle.plan_file.specs.Free.{AreSpare}
use Rattle.plan_file.proofs.Freed.{spare-of}
use Rattle.plan_file.proofs.Later.{IsLater, later, enough, length-draft_replies, touched-held, mapped-high, first-high}
use Rattle.plan_file.proofs.Placing.{taken_by, laid-held, laid-mapped, laid-within, changed-held}
use Rattle.plan_file.proofs.Adding.{draft-answers, empty-put, empty-room, fits-put}
use Rattle.plan_file.proofs.Touching.{touched-few}
use Rattle.plan_file.proofs.Planning.{none-done, batch-done}
use Rattle.plan_file.proofs.batch_plan.plan_found.Goals as goal

pub returns-then-not-any_accepted-clause-planned : goal.returns-then-not-any_accepted-clause-planned
returns-then-not-any_accepted-clause-planned g c = λ tells strong are is.
    let S = g.S.Stable in
    let image : Image = S.image c.args.store.now in
    let whole : IsImage image = whole_image S.sector_count g.met.S.Stable.clocked g.met.S.Stable.shape c.args.store.now tells in
    let long : length image ≡ S.sector_count c.args.store.now = (as_long S.sector_count g.met.S.Stable.clocked g.met.S.Stable.shape c.args.store.now tells).size in
    let sectors : ℕ = min (S.sector_count c.args.store.now) 1048576 in
    let first = subst (λ n. IsFirst c.args.file.ino c.args.found.now.inode c.in_ok-places.places n c.first_draft-draft.result) (c.spare_blocks-free.ensures.all (subst (λ (n : ℕ). AreSpare n c.args.sets.now.blocks) (sym (c.sectors.ensures ∙ c.in_ok-places.ensures.looked.sectors)) (spare-of image (S.sector_count c.args.store.now) c.args.sets.now.blocks c.args.sets.now.inodes strong long are))) c.first_draft-draft.ensures in
    let none : list_any (λ r. not (is_refused r)) c.decide-replies.result.items ≡ false = ap (list_any (λ r. not (is_refused r))) (sym c.as_slice.ensures.value) ∙ sym c.any_accepted.ensures ∙ c.if-not-any_accepted.true in
    subst (λ ps. IsPlanned image c.args.file c.args.batch.now c.args.now c.args.sets.now ps c.decide-replies.result.items) (sym (ap (λ (p : Reserved). p.puts) c.empty-plan.ensures))
    (none-done image strong whole c.args.file c.args.found.now is c.in_ok-places.places sectors (ap (λ m. min m 1048576) (sym long)) (c.in_ok-places.ensures.places tells)
    c.args.sets.now.blocks c.args.sets.now.inodes are c.first_draft-draft.result first c.args.batch.now c.args.now c.decide-replies.result.items c.decide-replies.ensures.replies none)

pub lay_out-target-requires-clause-room : goal.lay_out-target-requires-clause-room
lay_out-target-requires-clause-room g c =
    let first = c.first_draft-draft.ensures in
    let late : IsLater 138 c.first_draft-draft.result c.decide-replies.new.draft = subst (IsLater 138 c.first_draft-draft.result) (sym c.decide-replies.ensures.draft)
    (later 138 refl c.args.found.now.read_only c.first_draft-draft.result c.args.batch.now c.args.now first.held.long) in
    let e = enough 138 refl c.args.file.ino c.args.found.now.inode c.in_ok-places.places c.spare_blocks-free.result c.first_draft-draft.result c.decide-replies.new.draft first late in
    let few = c.spare_blocks-free.ensures.few in
    omega arith

pub add_puts-requires-clause-ready : goal.add_puts-requires-clause-ready
add_puts-requires-clause-ready g c =
    let S = g.S.Stable in
    let ws = c.args.batch.now in
    let first = c.first_draft-draft.ensures in
    let places = c.in_ok-places.places in
    let last : Draft = c.decide-replies.new.draft in
    let target = c.lay_out-target.result in
    let laid = c.lay_out-target.ensures in
    let late : IsLater 138 c.first_draft-draft.result last = subst (IsLater 138 c.first_draft-draft.result) (sym c.decide-replies.ensures.draft)
    (later 138 refl c.args.found.now.read_only c.first_draft-draft.result ws c.args.now first.held.long) in
    let replies = c.as_slice-3.ensures.value ∙ c.decide-replies.ensures.replies in
    let e = enough 138 refl c.args.file.ino c.args.found.now.inode places c.spare_blocks-free.result c.first_draft-draft.result last first late in
    let spare : 0 < taken_by places last.held last.mapped → AreSpare (S.sector_count c.args.store.now) c.args.sets.now.blocks = λ some.
    subst (λ (n : ℕ). AreSpare n c.args.sets.now.blocks) (c.sectors.ensures ∙ c.in_ok-places.ensures.looked.sectors) (c.spare_blocks-free.ensures.some (omega arith)) in
    let high = mapped-high 138 refl c.args.found.now.read_only c.first_draft-draft.result ws c.args.now first.held.long
    (first-high c.args.file.ino c.args.found.now.inode places c.spare_blocks-free.result c.first_draft-draft.result first c.in_ok-places.ensures.through) in
    subst (λ (n : ℕ). IsReady n c.args.file.ino places target last.attr (kept_of ws c.as_slice-3.result.now)) (sym c.in_ok-places.ensures.looked.sectors)
    (record {
      old = c.in_ok-places.ensures.within;
      new = laid-within (S.sector_count c.args.store.now) c.args.sets.now.blocks places last.held last.mapped target laid late.long spare c.in_ok-places.ensures.within;
      touched = λ k lt given. laid-held (S.sector_count c.args.store.now) c.args.sets.now.blocks places last.held last.mapped target laid late.long spare k lt
          (subst (λ (x : Draft). holds x.held k ≡ true) (sym c.decide-replies.ensures.draft)
          (touched-held 138 refl c.args.found.now.read_only c.first_draft-draft.result ws c.args.now first.held.long k lt (ap (λ l. list_any (touches k) (kept_of ws l)) (sym replies) ∙ given)));
      map = λ k ge lt differs. laid-mapped (S.sector_count c.args.store.now) c.args.sets.now.blocks places last.held last.mapped target laid late.long spare
          (subst (λ (x : Draft). ((q : ℕ) → 10 ≤ q → q < 138 → holds x.held q ≡ true → x.mapped ≡ true)) (sym c.decide-replies.ensures.draft) high k ge lt (changed-held c.args.sets.now.blocks places last.held last.mapped target laid k differs));
      size = late.size (subst (λ a. a ≤ size_limit) (sym (size_of_first first.attr)) c.requires.found.0);
      inode = c.requires.found.1;
    })
  where
    size_of_first : {a b : Attr} → a ≡ b → a.size ≡ b.size
    size_of_first e = ap (λ (x : Attr). x.size) e

pub add_puts-requires-clause-same : goal.add_puts-requires-clause-same
add_puts-requires-clause-same g c = ap length (c.as_slice-3.ensures.value ∙ c.decide-replies.ensures.replies) ∙ length-draft_replies c.args.found.now.read_only c.first_draft-draft.result c.args.batch.now c.args.now

pub returns-clause-planned : goal.returns-clause-planned
returns-clause-planned g c = λ tells strong are is.
    let S = g.S.Stable in
    let image : Image = S.image c.args.store.now in
    let whole : IsImage image = whole_image S.sector_count g.met.S.Stable.clocked g.met.S.Stable.shape c.args.store.now tells in
    let long : length image ≡ S.sector_count c.args.store.now = (as_long S.sector_count g.met.S.Stable.clocked g.met.S.Stable.shape c.args.store.now tells).size in
    let first = subst (λ n. IsFirst c.args.file.ino c.args.found.now.inode c.in_ok-places.places n c.first_draft-draft.result) (c.spare_blocks-free.ensures.all (subst (λ (n : ℕ). AreSpare n c.args.sets.now.blocks) (sym (c.sectors.ensures ∙ c.in_ok-places.ensures.looked.sectors)) (spare-of image (S.sector_count c.args.store.now) c.args.sets.now.blocks c.args.sets.now.inodes strong long are))) c.first_draft-draft.ensures in
    let some : list_any (λ r. not (is_refused r)) c.decide-replies.result.items ≡ true = ap (list_any (λ r. not (is_refused r))) (sym c.as_slice.ensures.value) ∙ sym c.any_accepted.ensures ∙ c.if-not-any_accepted.false in
    batch-done image strong whole c.args.file c.args.found.now is c.in_ok-places.places (min (S.sector_count c.args.store.now) 1048576) (ap (λ m. min m 1048576) (sym long)) (c.in_ok-places.ensures.places tells)
    c.args.sets.now.blocks c.args.sets.now.inodes are c.first_draft-draft.result first c.args.batch.now c.args.now c.decide-replies.result.items c.decide-replies.ensures.replies
    c.decide-replies.new.draft c.decide-replies.ensures.draft c.as_slice-3.result.now c.as_slice-3.ensures.value some
    c.lay_out-target.result c.lay_out-target.ensures (S.image c.file_places.new.store) c.in_ok-places.ensures.looked.image c.add_puts.new.plan.puts (c.in_ok-add_puts.ensures.added tells)
    c.take_new.new.blocks c.take_new.ensures

pub count_touched-room-requires : goal.count_touched-room-requires
count_touched-room-requires g c = ap length (c.as_slice-2.ensures.value ∙ c.decide-replies.ensures.replies) ∙ length-draft_replies c.args.found.now.read_only c.first_draft-draft.result c.args.batch.now c.args.now

pub returns-then-not-any_accepted-clause-fits : goal.returns-then-not-any_accepted-clause-fits
returns-then-not-any_accepted-clause-fits g c =
    let sectors = g.S.Stable.sector_count c.args.store.now in
    draft-answers sectors c.args.found.now.read_only c.first_draft-draft.result c.args.batch.now c.args.now c.empty-plan.result c.decide-replies.result.items c.decide-replies.ensures.replies
    (empty-put sectors c.empty-plan.result c.empty-plan.ensures) (empty-room (kept_of c.args.batch.now c.decide-replies.result.items) c.empty-plan.result c.empty-plan.ensures)

pub returns-clause-fits : goal.returns-clause-fits
returns-clause-fits g c =
    let sectors : ℕ = g.S.Stable.sector_count c.args.store.now in
    let still : ℕ = g.S.Stable.sector_count c.file_places.new.store in
    let ws = kept_of c.args.batch.now c.decide-replies.result.items in
    let count : c.count_touched-room.result ≡ touched_below ws 138 = c.count_touched-room.ensures.count ∙ ap (λ l. touched_below (kept_of c.args.batch.now l) 138) c.as_slice-2.ensures.value in
    let fits : Fits still (room_for ws) c.in_ok-plan.plan c.add_puts.new.plan = subst (λ l. Fits still (room_for (kept_of c.args.batch.now l)) c.in_ok-plan.plan c.add_puts.new.plan) c.as_slice-3.ensures.value c.in_ok-add_puts.ensures.fits in
    let few = touched-few ws 138 in
    let room : c.add_puts.new.plan.room ≡ c.count_touched-room.result + 3 = fits.room ∙ ap (λ (p : Reserved). p.room) c.in_ok-plan.ensures in
    draft-answers sectors c.args.found.now.read_only c.first_draft-draft.result c.args.batch.now c.args.now c.add_puts.new.plan c.decide-replies.result.items c.decide-replies.ensures.replies
    (subst (λ (n : ℕ). CanBePut n c.add_puts.new.plan.puts) c.in_ok-places.ensures.looked.sectors
    (fits-put still (room_for ws) (c.count_touched-room.result + 3) c.in_ok-plan.plan c.add_puts.new.plan (omega (arith, few)) c.in_ok-plan.ensures fits))
    (omega (arith, count, room))

pub lay_out-target-requires-clause-small : goal.lay_out-target-requires-clause-small
lay_out-target-requires-clause-small g c = λ some a h.
    let first = c.first_draft-draft.ensures in
    let late : IsLater 138 c.first_draft-draft.result c.decide-replies.new.draft = subst (IsLater 138 c.first_draft-draft.result) (sym c.decide-replies.ensures.draft)
    (later 138 refl c.args.found.now.read_only c.first_draft-draft.result c.args.batch.now c.args.now first.held.long) in
    let e = enough 138 refl c.args.file.ino c.args.found.now.inode c.in_ok-places.places c.spare_blocks-free.result c.first_draft-draft.result c.decide-replies.new.draft first late in
    let small = (c.spare_blocks-free.ensures.some (omega arith) a h).1 in omega arith
