-- What can be opened stays so, and what a run on a rig shows as overlays.
use Rattle.std.proofs.Common.{◌≡◌, inl, inr, ⊎_elim, ℕ, true, List, [], ◌∷◌, get_or, take, refl, sym, ◌∙◌, ap, subst, arith}
use Rattle.std.proofs.lemmas.Bool.{true≢false}
use Rattle.rig.specs.Devices.{Devices, Sizes, Unchanged}
use Rattle.rig.specs.declared.rig.Rig.{Ghosts}
use Rattle.nvram_map.specs.Overlay.{overlay, SoundlyLeaves, ShowsOverlay}
use Rattle.nvram_map.specs.Words.{name_word}
use Rattle.nvram_map.proofs.Overlaid.{sound_overlay}
use Rattle.stable.specs.Moments.{IsClocked, LeavesOnly}
use Rattle.stable.specs.Store.{Image, name_in, KeepsName, StaysOpenable, SectorPut, Same}
use Rattle.stable.proofs.Clocked.{weaker}
use Rattle.presto_cache.specs.Board.{PutsOne, Keeps}
use Rattle.presto_cache.proofs.Puts.{get_or_set, kept_puts}
use Rattle.presto_unit.specs.Images.{ShowsWhole, overlays_since}
use Rattle.presto_unit.specs.Opening.{IsNamed, IsOpenable, opens_since}

word_0 : (ws : List ℕ) → get_or (take 2 ws) 0 0 ≡ get_or ws 0 0
word_0 [] = refl
word_0 (a ∷ ws) = refl

word_1 : (ws : List ℕ) → get_or (take 2 ws) 1 0 ≡ get_or ws 1 0
word_1 [] = refl
word_1 (a ∷ []) = refl
word_1 (a ∷ b ∷ ws) = refl

module _ (sizes : Sizes) (old d : Devices) (s : ℕ) (x : List ℕ) (put : PutsOne sizes s x old d) (keeps : KeepsName s x (overlay old)) where
  named : IsNamed sizes old → IsNamed sizes d
  named was = record {
    board = record {
      marked = sym (word_0 d.words) ∙ ap (λ l. get_or l 0 0) put.head ∙ word_0 old.words ∙ was.board.marked;
      named = sym (word_1 d.words) ∙ ap (λ l. get_or l 1 0) put.head ∙ word_1 old.words ∙ was.board.named ∙ ap name_word (sym disk_name);
      entries_are = put.entries_are;
    };
    same = overlay_name ∙ was.same ∙ sym disk_name;
  }
    where
      disk_name : name_in (get_or d.disk 1 []) ≡ name_in (get_or old.disk 1 [])
      disk_name = ⊎_elim
          (λ same. ap name_in same)
          (λ rest. ⊎_elim (λ laid. ap name_in laid ∙ was.same) (λ new. ap name_in new.1 ∙ keeps (sym new.0) ∙ was.same) rest)
          (put.disk 1)

      overlay_name : name_in (get_or (overlay d) 1 []) ≡ name_in (get_or (overlay old) 1 [])
      overlay_name = ⊎_elim
          (λ same. ap (λ l. name_in (get_or l 1 [])) same)
          (λ new. ap (λ l. name_in (get_or l 1 [])) new ∙ ⊎_elim (λ other. ap name_in other) (λ this. ap name_in this.1 ∙ keeps (sym this.0)) (get_or_set (overlay old) s x 1))
          (put.image d (inl refl))

  pub put_open : old.kept ≡ true → IsOpenable sizes old → IsOpenable sizes d
  put_open kept (inl none) = inl none
  put_open kept (inr (inl lost)) = absurd (true≢false (sym kept ∙ lost))
  put_open kept (inr (inr was)) = inr (inr (named was))

pub sound_open : (sizes : Sizes) (d after : Devices) → SoundlyLeaves d after → IsOpenable sizes d → IsOpenable sizes after
sound_open sizes d after (inl same) was = subst (λ (e : Devices). IsOpenable sizes e) (sym same) was
sound_open sizes d after (inr lost) was = inr (inl lost.1.kept)

module _ {R : Type 0} (r : Ghosts R) (clocked : IsClocked r.tells r.contents r.moment r.left_since) {old new : R} (sizes : r.sizes new ≡ r.sizes old) where
  pub opens_put : (s : ℕ) (x : List ℕ) → (r.tells → (r.contents old).kept ≡ true) → LeavesOnly r.moment r.left_since old new (PutsOne (r.sizes old) s x (r.contents old))
      → KeepsName s x (overlay (r.contents old)) → StaysOpenable (opens_since r.sizes r.left_since) r.moment old new
  opens_put s x kept run keeps t le opens d left after crash =
      subst (λ (z : Sizes). IsOpenable z after) (sym sizes) (⊎_elim
      (λ was. opens d was after crash)
      (λ now. let tells = clocked.told _ _ d now in
      sound_open (r.sizes old) d after crash (put_open (r.sizes old) (r.contents old) d s x (run.each d now) keeps (kept tells)
      (opens (r.contents old) (clocked.now old t tells le) (r.contents old) (inl refl))))
      (run.before t d le left))

  pub opens_kept : (r.tells → (r.contents old).kept ≡ true) → LeavesOnly r.moment r.left_since old new (Keeps (r.sizes old) (r.contents old)) → StaysOpenable (opens_since r.sizes r.left_since) r.moment old new
  opens_kept kept run = opens_put 0 [] kept (weaker run (λ d left k. kept_puts 0 [] k)) (λ e. absurd (omega (arith, e)))

  pub opens_looked : LeavesOnly r.moment r.left_since old new (Unchanged (r.contents old)) → StaysOpenable (opens_since r.sizes r.left_since) r.moment old new
  opens_looked run t le opens d left after crash =
      subst (λ (z : Sizes). IsOpenable z after) (sym sizes) (⊎_elim
      (λ was. opens d was after crash)
      (λ now. let tells = clocked.told _ _ d now in
      opens (r.contents old) (clocked.now old t tells le) after (subst (λ (e : Devices). SoundlyLeaves e after) (run.each d now) crash))
      (run.before t d le left))

  -- what stands on a rig shows overlays
  pub overlays_run : {P : Devices → Type 0} (Q : Image → Type 0) → LeavesOnly r.moment r.left_since old new P → ((d : Devices) (i : Image) → P d → ShowsOverlay d i → Q i)
      → LeavesOnly r.moment (overlays_since r.sizes r.left_since) old new Q
  overlays_run Q run here = record {
    later = run.later;
    each = λ i left. here left.0 i (run.each left.0 left.1) left.2.shows;
    before = λ t i le left. ⊎_elim (λ was. inl (left.0, was, subst (λ (z : Sizes). ShowsWhole z left.0 i) sizes left.2)) (λ now. inr (left.0, now, left.2)) (run.before t left.0 le left.1);
    keeps = λ t i le left. (left.0, run.keeps t left.0 le left.1, subst (λ (z : Sizes). ShowsWhole z left.0 i) (sym sizes) left.2);
    wider = λ t i le left. (left.0, run.wider t left.0 le left.1, left.2);
  }

  pub put_shown : (s : ℕ) (x : List ℕ) {z : Sizes} {was : Devices} → LeavesOnly r.moment r.left_since old new (PutsOne z s x was)
      → LeavesOnly r.moment (overlays_since r.sizes r.left_since) old new (SectorPut s x (overlay was))
  put_shown s x {z} {was} run = overlays_run (SectorPut s x (overlay was)) run
      (λ d i put by. ⊎_elim (λ e. inl (by.2 ∙ e)) (λ e. inr (by.2 ∙ e)) (put.image by.0 by.1))

  pub kept_shown : {z : Sizes} {was : Devices} → LeavesOnly r.moment r.left_since old new (Keeps z was) → LeavesOnly r.moment (overlays_since r.sizes r.left_since) old new (Same (overlay was))
  kept_shown {z} {was} run = overlays_run (Same (overlay was)) run (λ d i k by. by.2 ∙ k.image by.0 by.1)

  pub same_shown : {was : Devices} → LeavesOnly r.moment r.left_since old new (Unchanged was) → LeavesOnly r.moment (overlays_since r.sizes r.left_since) old new (Same (overlay was))
  same_shown {was} run = overlays_run (Same (overlay was)) run (λ d i p by. by.2 ∙ sound_overlay d by.0 by.1 ∙ ap overlay p)
