-- The inodes that a plan puts last, in any order: times of directories, and the inode of a node that lost a name.
use Rattle.std.proofs.Common.{◌≡◌, ◌≢◌, ℕ, ◌+◌, ◌<◌, ◌≤◌, Bool, false, ◌||◌, ◌==◌, if◌then◌else◌, List, [], ◌∷◌, ◌++◌, length, set, refl, sym, ap, subst, ◌∙◌, arith, Option, Some, length-set}
use Rattle.std.proofs.lemmas.Bool.{ne_eqb}
use Rattle.std.specs.List.{AllByRecursion, list_any}
use Rattle.std.specs.FinMap.{get}
use Rattle.files_model.specs.Files.{Node, Files}
use Rattle.files_model.specs.Step.{with_node}
use Rattle.files_model.specs.Torn.{Asked, after_calls, is_write, with_times}
use Rattle.files_model.proofs.Maps.{same_maps, get-insert_same, get-insert_other}
use Rattle.stable.specs.Puts.{put_all, EachPrefix}
use Rattle.stable.specs.Store.{Image}
use Rattle.v7_map.specs.Image.{inode_at, inode_sector}
use Rattle.v7_map.specs.Frame.{Frame, frame}
use Rattle.v7_map.specs.Tree.{tree, is_walked, links}
use Rattle.v7_map.specs.View.{view}
use Rattle.v7_map.specs.Weak.{IsWeak, IsStrong}
use Rattle.v7_map.specs.Plan.{PutsInode}
use Rattle.v7_strokes.specs.Inodes.{timed_inode}
use Rattle.v7_map.specs.Plans.{IsTornImage}
use Rattle.v7_map.proofs.Ranges.{inode_sector-inside}
use Rattle.v7_strokes.proofs.Times.{frame_after_times, view_after_times}
use Rattle.v7_strokes.specs.Freed.{IsFreed}
use Rattle.v7_strokes.specs.Last.{inode_puts, AreTimes}
use Rattle.v7_strokes.specs.Entries.{inode_put}
use Rattle.v7_plans.specs.Setting.{put_inode}
use Rattle.v7_strokes.specs.Inodes.{loser_inode}
use Rattle.v7_plans.proofs.Local.{IsStrongFor, each}
use Rattle.v7_strokes.proofs.Loser.{IsLosing, loser-put, lost_of}
use Rattle.v7_strokes.proofs.TornCalls.{IsAfter, same, times, torn-after}

-- the node after the call has the times of the call
pub record IsTimed (after : Files) (now d : ℕ) (z : Node) : Type 0 where
  pub at : get after.nodes d ≡ Some z
  pub mtime : z.mtime ≡ now
  pub ctime : z.ctime ≡ now

timed_is : (now : ℕ) (o t : Option Node) (z : Node) → z.mtime ≡ now → z.ctime ≡ now → IsAfter o (Some z) t → (y : Node) × (t ≡ Some y) × (record y { mtime = now; ctime = now } ≡ z)
timed_is now o t z m c (same e) = (z, e, (λ v. record z { mtime = sym m v; ctime = sym c v }))
timed_is now o t z m c (times a b oa zb e) = (with_times b a, e, (λ v. record b { mtime = now; ctime = now }) ∙ (λ v. record (some_is b z (sym zb) v) { mtime = now; ctime = now }) ∙ (λ v. record z { mtime = sym m v; ctime = sym c v }))
  where
    some_is : (x y : Node) → Some x ≡ Some y → x ≡ y
    some_is x y e = cc

freed_then : (e : Bool) (r : ℕ) (f g h : Frame) → IsFreed false r f g → IsFreed e r g h → IsFreed e r f h
freed_then e r f g h x y = record {
  isize = y.isize ∙ x.isize;
  fsize = y.fsize ∙ x.fsize;
  others = λ j ne p. y.others j ne p ∙ x.others j ne p;
  own = λ p. y.own p ∙ ap (λ a. if e then 0 else a) (x.own p);
}

module _ (image : Image) (asked : Asked) (now r : ℕ) (w : Node) (no_write : is_write asked.0 ≡ false) (lost_after : get (after_calls (view image) (asked ∷ []) now).nodes r ≡ lost_of w now) where
  A : Files
  A = after_calls (view image) (asked ∷ []) now

  -- the files are those after the call, but for times; of the nodes apart from the loose ones, only the directories of the list have times to come
  pub record Stage (loose : ℕ → Type 0) (m : Image) (todo : List ℕ) : Type 0 where
    pub nodes : (j : ℕ) → IsAfter (get (view image).nodes j) (get (after_calls (view image) (asked ∷ []) now).nodes j) (get (view m).nodes j)
    pub exact : (j : ℕ) → (loose j → ⊥) → list_any (λ d. d == j) todo ≡ false → get (view m).nodes j ≡ get (after_calls (view image) (asked ∷ []) now).nodes j
    pub rest : view m ≡ record (after_calls (view image) (asked ∷ []) now) { nodes = (view m).nodes }
    pub long : length m ≡ length image

  pub record Unsettled (m : Image) (todo : List ℕ) : Type 0 where
    pub losing : IsLosing m r w
    pub stage : Stage (λ j. j ≡ r) m todo
    pub blocks : IsFreed false r (frame image) (frame m)

  pub record Settled (m : Image) (todo : List ℕ) : Type 0 where
    pub sound : IsStrong (frame m)
    pub stage : Stage (λ j. ⊥) m todo
    pub blocks : IsFreed (w.nlink == 1) r (frame image) (frame m)

  -- what is wanted of the puts to come
  pub record Finish (m : Image) (puts : List (ℕ × List ℕ)) : Type 0 where
    pub past : AllByRecursion (λ (put : ℕ × List ℕ). 2 ≤ put.0) puts
    pub inside : AllByRecursion (λ (put : ℕ × List ℕ). put.0 < length image) puts
    pub whole : AllByRecursion (λ (put : ℕ × List ℕ). length put.1 ≡ 512) puts
    pub prefixes : EachPrefix (IsTornImage (view image) (asked ∷ []) now) puts m
    pub strong : IsStrong (frame (put_all puts m))
    pub after : view (put_all puts m) ≡ after_calls (view image) (asked ∷ []) now
    pub blocks : IsFreed (w.nlink == 1) r (frame image) (frame (put_all puts m))

  torn : (loose : ℕ → Type 0) (m : Image) (todo : List ℕ) → IsWeak (frame m) → Stage loose m todo → IsTornImage (view image) (asked ∷ []) now m
  torn loose m todo weak s = record { weak = weak; torn = torn-after (view image) asked now (view m) no_write s.nodes s.rest }

  -- ---- the times of a directory

  module _ (loose : ℕ → Type 0) (m : Image) (d : ℕ) (todo : List ℕ) (b : List ℕ) (weak : IsWeak (frame m)) (s : Stage loose m (d ∷ todo)) (z : Node) (t : IsTimed (after_calls (view image) (asked ∷ []) now) now d z)
      (puts : PutsInode m d b (timed_inode (inode_at m d) now)) where
    found : (y : Node) × (get (view m).nodes d ≡ Some y) × (record y { mtime = now; ctime = now } ≡ z)
    found = timed_is now (get (view image).nodes d) (get (view m).nodes d) z t.mtime t.ctime (subst (λ a. IsAfter (get (view image).nodes d) a (get (view m).nodes d)) t.at (s.nodes d))

    times_frame : frame (set m (inode_sector d) b) ≡ frame m
    times_frame = frame_after_times m d found.0 weak found.1 b now puts

    times_files : view (set m (inode_sector d) b) ≡ with_node (view m) d (record found.0 { mtime = now; ctime = now })
    times_files = view_after_times m d found.0 weak found.1 b now puts

    times_here : get (view (set m (inode_sector d) b)).nodes d ≡ get (after_calls (view image) (asked ∷ []) now).nodes d
    times_here = ap (λ (f : Files). get f.nodes d) times_files ∙ get-insert_same (view m).nodes d (record found.0 { mtime = now; ctime = now }) ∙ ap (λ (x : Node). Some x) found.2 ∙ sym t.at

    times_other : (j : ℕ) → j ≢ d → get (view (set m (inode_sector d) b)).nodes j ≡ get (view m).nodes j
    times_other j ne = ap (λ (f : Files). get f.nodes j) times_files ∙ get-insert_other (view m).nodes d (record found.0 { mtime = now; ctime = now }) j ne

    times_stage : Stage loose (set m (inode_sector d) b) todo
    times_stage = record {
      nodes = each d (λ j. IsAfter (get (view image).nodes j) (get (after_calls (view image) (asked ∷ []) now).nodes j) (get (view (set m (inode_sector d) b)).nodes j))
          (same times_here)
          (λ j ne. subst (λ v. IsAfter (get (view image).nodes j) (get (after_calls (view image) (asked ∷ []) now).nodes j) v) (sym (times_other j ne)) (s.nodes j));
      exact = λ j tight h. each d (λ j. (loose j → ⊥) → list_any (λ d. d == j) todo ≡ false → get (view (set m (inode_sector d) b)).nodes j ≡ get (after_calls (view image) (asked ∷ []) now).nodes j)
          (λ _ _. times_here)
          (λ j ne tight h. times_other j ne ∙ s.exact j tight (ap (λ x. x || list_any (λ d. d == j) todo) (ne_eqb d j (λ e. ne (sym e))) ∙ h)) j tight h;
      rest = (λ v. record (times_files v) { nodes = (view (set m (inode_sector d) b)).nodes }) ∙ (λ v. record (s.rest v) { nodes = (view (set m (inode_sector d) b)).nodes });
      long = length-set m (inode_sector d) b ∙ s.long;
    }

  unsettled_times : (m : Image) (d : ℕ) (todo : List ℕ) (b : List ℕ) → Unsettled m (d ∷ todo) → (z : Node) → IsTimed (after_calls (view image) (asked ∷ []) now) now d z → r ≢ d → PutsInode m d b (timed_inode (inode_at m d) now)
      → Unsettled (set m (inode_sector d) b) todo
  unsettled_times m d todo b u z t ne puts =
      let f = times_frame (λ j. j ≡ r) m d todo b u.losing.sound.weak u.stage z t puts in record {
        losing = record {
          sound = subst (IsStrongFor (λ j. j ≢ r)) (sym f) u.losing.sound;
          fewer = ap (λ g. links (tree g) r + 1) f ∙ u.losing.fewer;
          unwalked = ap (λ g. is_walked (tree g) r) f ∙ u.losing.unwalked;
          stored = ap (λ (g : Frame). (g.head r).nlink) f ∙ u.losing.stored;
          used = ap (λ (g : Frame). (g.head r).is_used) f ∙ u.losing.used;
          low = u.losing.low;
          within = subst (λ g. r < (tree g).inodes + 1) (sym f) u.losing.within;
          node = times_other (λ j. j ≡ r) m d todo b u.losing.sound.weak u.stage z t puts r ne ∙ u.losing.node;
        };
        stage = times_stage (λ j. j ≡ r) m d todo b u.losing.sound.weak u.stage z t puts;
        blocks = subst (IsFreed false r (frame image)) (sym f) u.blocks;
      }

  settled_times : (m : Image) (d : ℕ) (todo : List ℕ) (b : List ℕ) → Settled m (d ∷ todo) → (z : Node) → IsTimed (after_calls (view image) (asked ∷ []) now) now d z → PutsInode m d b (timed_inode (inode_at m d) now) → Settled (set m (inode_sector d) b) todo
  settled_times m d todo b u z t puts = let f = times_frame (λ j. ⊥) m d todo b u.sound.weak u.stage z t puts in record {
    sound = subst IsStrong (sym f) u.sound;
    stage = times_stage (λ j. ⊥) m d todo b u.sound.weak u.stage z t puts;
    blocks = subst (IsFreed (w.nlink == 1) r (frame image)) (sym f) u.blocks;
  }

  -- ---- the inode of the node that lost a name

  settle : (m : Image) (todo : List ℕ) (b : List ℕ) → Unsettled m todo → PutsInode m r b (loser_inode w (inode_at m r) now) → Settled (set m (inode_sector r) b) todo
  settle m todo b u puts = let x = loser-put m r w now b u.losing puts in record {
    sound = x.sound;
    stage = record {
      nodes = each r (λ j. IsAfter (get (view image).nodes j) (get (after_calls (view image) (asked ∷ []) now).nodes j) (get (view (set m (inode_sector r) b)).nodes j))
          (same (x.here ∙ sym lost_after))
          (λ j ne. subst (λ v. IsAfter (get (view image).nodes j) (get (after_calls (view image) (asked ∷ []) now).nodes j) v) (sym (x.others j ne)) (u.stage.nodes j));
      exact = λ j tight h. each r (λ j. list_any (λ d. d == j) todo ≡ false → get (view (set m (inode_sector r) b)).nodes j ≡ get (after_calls (view image) (asked ∷ []) now).nodes j)
          (λ _. x.here ∙ sym lost_after)
          (λ j ne h. x.others j ne ∙ u.stage.exact j ne h) j h;
      rest = x.rest ∙ (λ v. record (u.stage.rest v) { nodes = (view (set m (inode_sector r) b)).nodes });
      long = length-set m (inode_sector r) b ∙ u.stage.long;
    };
    blocks = freed_then (w.nlink == 1) r (frame image) (frame m) (frame (set m (inode_sector r) b)) u.blocks x.blocks;
  }

  -- ---- all of them

  pub finish-cons : (m : Image) (s : ℕ) (b : List ℕ) (puts : List (ℕ × List ℕ)) → IsTornImage (view image) (asked ∷ []) now m → 2 ≤ s → s < length image → length b ≡ 512 → Finish (set m s b) puts → Finish m ((s, b) ∷ puts)
  finish-cons m s b puts t low high long f = record {
    past = (low, f.past);
    inside = (high, f.inside);
    whole = (long, f.whole);
    prefixes = (t, f.prefixes);
    strong = f.strong;
    after = f.after;
    blocks = f.blocks;
  }

  inode_cons : (m : Image) (d : ℕ) (b : List ℕ) (puts : List (ℕ × List ℕ)) → IsTornImage (view image) (asked ∷ []) now m → length m ≡ length image → (v : _) → PutsInode m d b v → Finish (set m (inode_sector d) b) puts → Finish m (inode_put d b ∷ puts)
  inode_cons m d b puts t e v p f = finish-cons m (inode_sector d) b puts t (omega arith) (subst (λ x. inode_sector d < x) e (inode_sector-inside m t.weak d p.inside).2) p.long f

  pub finish-settled : (ds : List ℕ) (bs : List (List ℕ)) (m : Image) → AllByRecursion (λ d. (z : Node) × IsTimed (after_calls (view image) (asked ∷ []) now) now d z) ds → Settled m ds → AreTimes m now ds bs → Finish m (inode_puts ds bs)
  finish-settled [] [] m timed u h = record {
    past = tt;
    inside = tt;
    whole = tt;
    prefixes = torn (λ j. ⊥) m [] u.sound.weak u.stage;
    strong = u.sound;
    after = u.stage.rest ∙ (λ v. record (after_calls (view image) (asked ∷ []) now) { nodes = same_maps (view m).nodes (after_calls (view image) (asked ∷ []) now).nodes (λ j. u.stage.exact j (λ x. x) refl) v });
    blocks = u.blocks;
  }
  finish-settled [] (b ∷ bs) m timed u h = absurd h
  finish-settled (d ∷ ds) [] m timed u h = absurd h
  finish-settled (d ∷ ds) (b ∷ bs) m timed u h = inode_cons m d b (inode_puts ds bs) (torn (λ j. ⊥) m (d ∷ ds) u.sound.weak u.stage) u.stage.long (timed_inode (inode_at m d) now) h.0
      (finish-settled ds bs (set m (inode_sector d) b) timed.1 (settled_times m d ds b u timed.0.0 timed.0.1 h.0) h.1)

  pub finish-unsettled : (ds es : List ℕ) (bs cs : List (List ℕ)) (b : List ℕ) (m : Image)
      → AllByRecursion (λ d. (z : Node) × IsTimed (after_calls (view image) (asked ∷ []) now) now d z) ds → AllByRecursion (λ d. r ≢ d) ds
      → AllByRecursion (λ d. (z : Node) × IsTimed (after_calls (view image) (asked ∷ []) now) now d z) es → Unsettled m (ds ++ es) → AreTimes m now ds bs
      → PutsInode (put_all (inode_puts ds bs) m) r b (loser_inode w (inode_at (put_all (inode_puts ds bs) m) r) now)
      → AreTimes (put_inode (put_all (inode_puts ds bs) m) r b) now es cs → Finish m (inode_puts ds bs ++ inode_put r b ∷ inode_puts es cs)
  finish-unsettled [] es [] cs b m timed apart timed' u h p h' = inode_cons m r b (inode_puts es cs) (torn (λ j. j ≡ r) m es u.losing.sound.weak u.stage) u.stage.long (loser_inode w (inode_at m r) now) p
      (finish-settled es cs (set m (inode_sector r) b) timed' (settle m es b u p) h')
  finish-unsettled [] es (x ∷ bs) cs b m timed apart timed' u h p h' = absurd h
  finish-unsettled (d ∷ ds) es [] cs b m timed apart timed' u h p h' = absurd h
  finish-unsettled (d ∷ ds) es (x ∷ bs) cs b m timed apart timed' u h p h' =
      inode_cons m d x (inode_puts ds bs ++ inode_put r b ∷ inode_puts es cs) (torn (λ j. j ≡ r) m (d ∷ (ds ++ es)) u.losing.sound.weak u.stage) u.stage.long (timed_inode (inode_at m d) now) h.0
      (finish-unsettled ds es bs cs b (set m (inode_sector d) x) timed.1 apart.1 timed' (unsettled_times m d (ds ++ es) x u timed.0.0 timed.0.1 apart.0 h.0) h.1 p h')
