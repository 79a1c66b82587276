-- A name that replaces another, in the form of its law.
use Rattle.std.proofs.Common.{◌≡◌, ◌⊎◌, ℕ, ◌/◌, ◌==◌, true, List, [], ◌∷◌, ◌++◌, length, append_assoc, Some, set, refl, sym, ap, subst, ◌∙◌, min, max, if◌then◌else◌}
use Rattle.std.specs.List.{AllByRecursion, list_any}
use Rattle.stable.specs.Puts.{put_all, with_put, AllPastSuperBlock}
use Rattle.stable.specs.Store.{Image}
use Rattle.v7_layout.specs.declared.inode.Inode.{Inode}
use Rattle.v7_map.specs.Frame.{Body, frame}
use Rattle.v7_map.specs.Image.{is_inode, inode_at, inode_sector}
use Rattle.v7_map.specs.Plan.{PutsInode}
use Rattle.v7_map.specs.Plans.{IsPlanOf}
use Rattle.v7_map.specs.View.{view}
use Rattle.v7_map.specs.Weak.{IsStrong}
use Rattle.v7_map.proofs.Prefixes.{put_all-append}
use Rattle.v7_plans.specs.Setting.{put_inode}
use Rattle.v7_sets.specs.Given.{given}
use Rattle.v7_sets.specs.Sets.{AreSetsOf}
use Rattle.v7_strokes.specs.Entries.{entry_sector, inode_put, put_entry}
use Rattle.v7_strokes.specs.Freed.{IsFreed}
use Rattle.v7_strokes.specs.Inodes.{loser_inode, ended_inode, unlinked_inode}
use Rattle.v7_strokes.specs.Last.{AreTimes, inode_puts}
use Rattle.v7_strokes.specs.Merged.{merged}
use Rattle.v7_strokes.proofs.Merging.{merged-all, merged-plan, merged-with}
use Rattle.v7_strokes.proofs.SlotStep.{step-addresses}
use Rattle.name_plans.specs.Removed.{frees_number, number_given}
use Rattle.name_plans.specs.Replacement.{Finishes, MovesSlots, moved_slots, replacing_puts}
use Rattle.name_plans.proofs.ReplaceAccepted.{IsReplacing, rename-replacing}
use Rattle.name_plans.proofs.ReplacePlan.{replace-first, replace-plan, replace-blocks}
use Rattle.name_plans.proofs.ReplaceSets.{replace-sets}
use Rattle.plan_name.proofs.Past.{still}
use Rattle.rename_puts.specs.Renamed.{Renaming, asked_of, ReplacesName, IsPlannedReplacing}
use Rattle.rename_puts.specs.Slots.{PutsMoved}
use Rattle.rename_puts.specs.Times.{AddsTimes, listed, before, after}
use Rattle.rename_puts.specs.declared.replacing.Lost.{Lost}
use Rattle.rename_puts.specs.declared.slots.Moved.{Moved}
use Rattle.rename_puts.proofs.Built.{moved-new, moved-slots, moved-after, moved-raw}
use Rattle.rename_puts.proofs.Numbers.{node-number}
use Rattle.rename_puts.proofs.Sides.{sides-from, sides-to, sides-before, sides-after}

module _ (image : Image) (call : Renaming) (now : ℕ) (moved : Moved) (lost : Lost) (strong : IsStrong (frame image)) (x : ReplacesName image call now moved lost) (first : List (ℕ × List ℕ)) (h : PutsMoved image moved first) where
  abbrev k : ℕ
  k = moved.old.index

  abbrev l : ℕ
  l = moved.new.index

  abbrev r : ℕ
  r = lost.node

  is : IsReplacing (view image) call.from call.to call.name call.new_name call.cred now x.number r k l x.node x.replaced x.old_node x.new_node
  is = rename-replacing image call.from call.to call.name call.new_name call.cred now x.number r k l x.node x.replaced x.old_node x.new_node strong x.replacement

  stays : entry_sector (put_entry image call.to.ino l h.new_bytes) call.from.ino k ≡ entry_sector image call.from.ino k
  stays = step-addresses image call.to.ino l (entry_sector image call.to.ino l) h.new_bytes (Some (x.number, call.new_name)) strong.weak
      (replace-first image call.from call.to call.name call.new_name call.cred now x.number r k l x.node x.replaced x.old_node x.new_node strong is h.new_bytes
      (moved-new image moved first h call.from.ino call.to.ino k l x.number call.new_name refl refl x.stands.old_sector x.stands.new_sector x.stands.holds)) call.from.ino (Body (k / 32))

  abbrev slots : MovesSlots image call.from.ino call.to.ino k l x.number call.new_name h.new_bytes h.old_bytes
  slots = moved-slots image moved first h call.from.ino call.to.ino k l x.number call.new_name refl refl x.stands.old_sector x.stands.new_sector x.stands.holds stays

  abbrev between : Image
  between = moved_slots image call.from.ino call.to.ino k l h.new_bytes h.old_bytes

  abbrev raw : List (ℕ × List ℕ)
  raw = (moved.new.sector, h.new_bytes) ∷ (moved.old.sector, h.old_bytes) ∷ []

  raw_after : put_all raw image ≡ between
  raw_after = moved-after image moved first h call.from.ino call.to.ino k l x.number call.new_name refl refl x.stands.old_sector x.stands.new_sector x.stands.holds stays

  abbrev loser : Image → Inode
  loser at = if lost.last then ended_inode (inode_at at r).generation else unlinked_inode (inode_at at r) now

  -- the inodes, in these bytes
  module _ (ds es : List ℕ) (bs cs : List (List ℕ)) (b : List ℕ) (fin : Finishes between now call.from.ino call.to.ino r x.replaced ds es bs cs b) where
    abbrev whole : List (ℕ × List ℕ)
    whole = replacing_puts image call.from.ino call.to.ino k l r h.new_bytes h.old_bytes ds es bs cs b

    plan : IsPlanOf image (asked_of call ∷ []) now whole
    plan = replace-plan image call.from call.to call.name call.new_name call.cred now x.number r k l x.node x.replaced x.old_node x.new_node strong is h.new_bytes slots.new h.old_bytes slots.old ds es bs cs b fin

    freed : IsFreed (x.replaced.nlink == 1) r (frame image) (frame (put_all whole image))
    freed = replace-blocks image call.from call.to call.name call.new_name call.cred now x.number r k l x.node x.replaced x.old_node x.new_node strong is h.new_bytes slots.new h.old_bytes slots.old ds es bs cs b fin

    planned : IsPlannedReplacing image (asked_of call) now r x.replaced (merged whole)
    planned = record {
      plan = merged-plan image (asked_of call ∷ []) now whole plan;
      sets = λ gone are blocks inodes sets. subst (λ z. AreSetsOf z (given gone blocks) (number_given (frees_number (view image) r x.replaced) r inodes)) (sym (merged-all whole image))
          (replace-sets image call.from call.to call.name call.new_name call.cred now x.number r k l x.node x.replaced x.old_node x.new_node whole strong x.replacement plan freed gone are blocks inodes sets);
    }

  module _ (ds es : List ℕ) (second third puts : List (ℕ × List ℕ)) (b : List ℕ) (t : AddsTimes image now ds raw second) (past : AllPastSuperBlock second)
      (added : third ≡ with_put second (inode_sector r, b)) (put : is_inode (put_all second image) r ≡ true → PutsInode (put_all second image) r b (loser (put_all second image))) where
    -- the puts so far, with that of the node
    abbrev pub with_node : List (ℕ × List ℕ)
    with_node = (raw ++ inode_puts ds t.bytes) ++ inode_put r b ∷ []

    pub third-merged : third ≡ merged with_node
    third-merged = added ∙ ap (λ q. with_put q (inode_put r b)) t.puts ∙ sym (merged-with (raw ++ inode_puts ds t.bytes) (inode_put r b))

    second_after : put_all second image ≡ put_all (inode_puts ds t.bytes) between
    second_after = ap (λ q. put_all q image) t.puts ∙ merged-all (raw ++ inode_puts ds t.bytes) image ∙ put_all-append raw (inode_puts ds t.bytes) image ∙ ap (put_all (inode_puts ds t.bytes)) raw_after

    node : PutsInode (put_all (inode_puts ds t.bytes) between) r b (loser_inode x.replaced (inode_at (put_all (inode_puts ds t.bytes) between) r) now)
    node = subst (λ e. PutsInode (put_all (inode_puts ds t.bytes) between) r b (if e then ended_inode (inode_at (put_all (inode_puts ds t.bytes) between) r).generation else unlinked_inode (inode_at (put_all (inode_puts ds t.bytes) between) r) now)) x.last
        (subst (λ q. PutsInode q r b (loser q)) second_after (put (still image second r past (node-number image r x.replaced strong x.replacement.replaced))))

    third_after : put_all with_node image ≡ put_inode (put_all (inode_puts ds t.bytes) between) r b
    third_after = put_all-append (raw ++ inode_puts ds t.bytes) (inode_put r b ∷ []) image
        ∙ ap (λ q. set q (inode_sector r) b) (put_all-append raw (inode_puts ds t.bytes) image ∙ ap (put_all (inode_puts ds t.bytes)) raw_after)

    module _ (u : AddsTimes image now es with_node puts) where
      last : AreTimes (put_inode (put_all (inode_puts ds t.bytes) between) r b) now es u.bytes
      last = subst (λ q. AreTimes q now es u.bytes) third_after u.times

      all : puts ≡ merged (replacing_puts image call.from.ino call.to.ino k l r h.new_bytes h.old_bytes ds es t.bytes u.bytes b)
      all = u.puts ∙ ap merged (
          append_assoc (raw ++ inode_puts ds t.bytes) (inode_put r b ∷ []) (inode_puts es u.bytes)
          ∙ append_assoc raw (inode_puts ds t.bytes) (inode_put r b ∷ inode_puts es u.bytes)
          ∙ moved-raw image moved first h call.from.ino call.to.ino k l x.number call.new_name refl refl x.stands.old_sector x.stands.new_sector x.stands.holds stays (inode_puts ds t.bytes ++ inode_put r b ∷ inode_puts es u.bytes))

  abbrev from_low : ℕ
  from_low = min moved.old.directory moved.new.directory

  abbrev from_high : ℕ
  from_high = max moved.old.directory moved.new.directory

  pub built-replacement : (second third puts : List (ℕ × List ℕ)) (b : List ℕ) (t : AddsTimes image now (listed (before from_low from_high r)) raw second) (past : AllPastSuperBlock second)
      (added : third ≡ with_put second (inode_sector r, b)) (put : is_inode (put_all second image) r ≡ true → PutsInode (put_all second image) r b (loser (put_all second image)))
      → AddsTimes image now (listed (after from_low from_high r)) ((raw ++ inode_puts (listed (before from_low from_high r)) t.bytes) ++ inode_put r b ∷ []) puts
      → IsPlannedReplacing image (asked_of call) now r x.replaced puts
  built-replacement second third puts b t past added put u =
      let ds = listed (before from_low from_high r) in let es = listed (after from_low from_high r) in
      subst (IsPlannedReplacing image (asked_of call) now r x.replaced) (sym (all ds es second third puts b t past added put u))
      (planned ds es t.bytes u.bytes b (record {
        first = subst (λ q. AreTimes q now ds t.bytes) raw_after t.times;
        node = node ds es second third puts b t past added put;
        last = last ds es second third puts b t past added put u;
        has_from = subst (λ d. list_any (λ e. e == d) (ds ++ es) ≡ true) x.stands.old_directory (sides-from moved.old.directory moved.new.directory r);
        has_to = subst (λ d. list_any (λ e. e == d) (ds ++ es) ≡ true) x.stands.new_directory (sides-to moved.old.directory moved.new.directory r);
        only_before = subst (λ d. AllByRecursion (λ e. (e ≡ d) ⊎ (e ≡ call.to.ino)) ds) x.stands.old_directory
            (subst (λ d. AllByRecursion (λ e. (e ≡ moved.old.directory) ⊎ (e ≡ d)) ds) x.stands.new_directory (sides-before moved.old.directory moved.new.directory r));
        only_after = subst (λ d. AllByRecursion (λ e. (e ≡ d) ⊎ (e ≡ call.to.ino)) es) x.stands.old_directory
            (subst (λ d. AllByRecursion (λ e. (e ≡ moved.old.directory) ⊎ (e ≡ d)) es) x.stands.new_directory (sides-after moved.old.directory moved.new.directory r));
      }))
