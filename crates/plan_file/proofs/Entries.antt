-- The first part of a plan for a file: data sectors, each into the block that it has or into one that stands nowhere. The frame stays, and the body is torn.
use Rattle.std.proofs.Common.{◌≡◌, ◌≢◌, ◌⊎◌, ℕ, ◌<◌, ◌≤◌, Option, Some, List, [], ◌∷◌, set, sym, ap, subst, ◌∙◌, inl, inr, ⊎_elim, option_map}
use Rattle.std.proofs.lemmas.Bool.{cases_eq}
use Rattle.std.specs.List.{AllByRecursion}
use Rattle.std.specs.FinMap.{get, insert}
use Rattle.files_model.specs.declared.attributes.Kind.TheVariants.{Regular}
use Rattle.files_model.specs.Files.{Node, Files, Sectors, sectors_of, clipped}
use Rattle.files_model.specs.Step.{with_node}
use Rattle.files_model.specs.Torn.{IsTornBody}
use Rattle.files_model.proofs.Maps.{get-insert_same, get-insert_other}
use Rattle.stable.specs.Store.{Image}
use Rattle.v7_map.specs.Frame.{Frame, Place, Body, frame}
use Rattle.v7_map.specs.Weak.{IsWeak}
use Rattle.v7_map.specs.View.{view}
use Rattle.stable.specs.Puts.{EachPrefix}
use Rattle.plan_file.specs.Rewrite.{body_puts}
use Rattle.v7_sets.specs.Sets.{IsFreeBlock}
use Rattle.v7_map.proofs.Writes.{frame_after_data, view_after_data}
use Rattle.v7_map.proofs.Unheld.{unheld-frame, unheld-view}
use Rattle.files_model.proofs.Batches.{with_node_twice}

-- what sector k of a torn body may be
abbrev pub IsTornAt : ℕ → Sectors → Sectors → ℕ → Option (List ℕ) → Type 0
IsTornAt size old new k o = (o ≡ get old k) ⊎ ((k < sectors_of size) × (o ≡ option_map (clipped size k) (get new k)))

-- the image has the frame of the first one, and a torn body of file i
pub record IsTornSoFar (image : Image) (i : ℕ) (n : Node) (new : Sectors) (now : Image) : Type 0 where
  pub frame_same : frame now ≡ frame image
  pub sectors : Sectors
  pub body : IsTornBody n.size n.sectors new sectors
  pub is : view now ≡ with_node (view image) i (record n { sectors = sectors })

-- sector e.0 has a block already, and its bytes are the old or the new ones; or it goes into a block that stands nowhere
abbrev pub IsPlaced : Frame → ℕ → Node → Sectors → (Place → ℕ) → (ℕ × List ℕ) → Type 0
IsPlaced f i n new target e =
    ((f.address i (Body e.0) ≡ target (Body e.0)) × (target (Body e.0) ≢ 0) × (e.0 < sectors_of n.size) × IsTornAt n.size n.sectors new e.0 (Some (clipped n.size e.0 e.1)))
    ⊎ IsFreeBlock f (target (Body e.0))

module _ (image : Image) (i : ℕ) (n : Node) (new : Sectors) (target : Place → ℕ) (weak : IsWeak (frame image)) (regular : n.kind ≡ Regular) where
  -- a put to a block that stands nowhere
  pub free_put : (now : Image) → IsTornSoFar image i n new now → (a : ℕ) (bytes : List ℕ) → IsFreeBlock (frame image) a → IsTornSoFar image i n new (set now a bytes)
  unfolding frame
  free_put now so a bytes free =
      let weak' : IsWeak (frame now) = subst IsWeak (sym so.frame_same) weak in
      let low : (frame now).isize ≤ a = subst (λ (f : Frame). f.isize ≤ a) (sym so.frame_same) free.low in
      let unheld : (j : ℕ) (p : Place) → (frame now).address j p ≢ a = subst (λ (f : Frame). (j : ℕ) (p : Place) → f.address j p ≢ a) (sym so.frame_same) free.nowhere in
      record {
        frame_same = unheld-frame now a bytes weak' low unheld ∙ so.frame_same;
        sectors = so.sectors;
        body = so.body;
        is = unheld-view now a bytes weak' low unheld ∙ so.is;
      }

  one_put : (now : Image) → IsTornSoFar image i n new now → (e : ℕ × List ℕ) → IsPlaced (frame image) i n new target e → IsTornSoFar image i n new (set now (target (Body e.0)) e.1)
  one_put now so e (inl h) =
      let m : Node = record n { sectors = so.sectors } in
      let there : get (view now).nodes i ≡ Some m = ap (λ (v : Files). get v.nodes i) so.is ∙ get-insert_same (view image).nodes i m in
      let weak' : IsWeak (frame now) = subst IsWeak (sym so.frame_same) weak in
      let at : (frame now).address i (Body e.0) ≡ target (Body e.0) = ap (λ (f : Frame). f.address i (Body e.0)) so.frame_same ∙ h.0 in
      record {
        frame_same = frame_after_data now i m weak' there regular e.0 (target (Body e.0)) e.1 h.2 at h.1 ∙ so.frame_same;
        sectors = insert so.sectors e.0 (clipped n.size e.0 e.1);
        body = λ k. ⊎_elim
            (λ (same : k ≡ e.0). subst (λ z. IsTornAt n.size n.sectors new z (get (insert so.sectors e.0 (clipped n.size e.0 e.1)) z)) (sym same)
            (subst (IsTornAt n.size n.sectors new e.0) (sym (get-insert_same so.sectors e.0 (clipped n.size e.0 e.1))) h.3))
            (λ (other : k ≢ e.0). subst (IsTornAt n.size n.sectors new k) (sym (get-insert_other so.sectors e.0 (clipped n.size e.0 e.1) k other)) (so.body k))
            (cases_eq k e.0);
        is = view_after_data now i m weak' there regular e.0 (target (Body e.0)) e.1 h.2 at h.1
            ∙ ap (λ v. with_node v i (record n { sectors = insert so.sectors e.0 (clipped n.size e.0 e.1) })) so.is
            ∙ with_node_twice (view image) i m (record n { sectors = insert so.sectors e.0 (clipped n.size e.0 e.1) });
      }
  one_put now so e (inr free) = free_put now so (target (Body e.0)) e.1 free

  -- each prefix of data sectors
  pub entries_torn : (es : List (ℕ × List ℕ)) (now : Image) → IsTornSoFar image i n new now → AllByRecursion (IsPlaced (frame image) i n new target) es → EachPrefix (IsTornSoFar image i n new) (body_puts target es) now
  entries_torn [] now so placed = so
  entries_torn (e ∷ es) now so placed = (so, entries_torn es (set now (target (Body e.0)) e.1) (one_put now so e placed.0) placed.1)
