-- Puts are added to a plan.
use Rattle.std.proofs.Common.{◌≡◌, ◌≢◌, ℕ, zero, suc, Bool, Option, Some, None, ◌∙◌, refl, replicate, get_or, ◌+◌, ◌<◌, ◌≤◌, List, [], ◌∷◌, ◌++◌, length, subst, sym, ap, arith, length-append}
use Rattle.std.proofs.lemmas.List.{length-replicate}
use Rattle.std.specs.List.{AllByRecursion}
use Rattle.v7_map.proofs.Puts.{all_append}
use Rattle.stable.specs.Puts.{Reserved, with_puts}
use Rattle.plan_file.specs.Accepted.{kept_of}
use Rattle.plan_file.specs.Contents.{Fits, touched_below}
use Rattle.files_model.specs.declared.attributes.Attr.{Attr}
use Rattle.files_model.specs.declared.call.WriteItem.{WriteItem}
use Rattle.files_model.specs.declared.reply.Reply.{Reply}
use Rattle.files_model.specs.declared.reply.Reply.TheVariants as reply
use Rattle.files_model.specs.declared.reply.Stat.{Stat}
use Rattle.files_model.specs.declared.reply.Stat.TheVariants as stat
use Rattle.plan_file.specs.declared.draft.Draft.{Draft}
use Rattle.plan_file.specs.Draft.{draft_after, draft_refusal, draft_replies, attr_written, reply_of}
use Rattle.plan_file.specs.Planned.{CanBePut, HasAnswers, IsReady, IsWriteReply, plan_puts, room_for}
use Rattle.plan_file.specs.Set.{CanBeSet}
use Rattle.plan_file.proofs.Later.{length-draft_replies}
use Rattle.plan_file.specs.Places.{AreWithin}
use Rattle.plan_file.specs.declared.places.Places.{Places}

-- none is
pub fits-none : (sectors most : ℕ) (plan : Reserved) → Fits sectors most plan plan
fits-none sectors most plan = record { stand = λ h. h; past = λ h. h; few = omega arith; room = refl }

pub fits-more : (sectors most more : ℕ) (plan : Reserved) → most ≤ more → {old : Reserved} → Fits sectors most old plan → Fits sectors more old plan
fits-more sectors most more plan le fits = record { stand = fits.stand; past = fits.past; few = let few = fits.few in omega arith; room = fits.room }

-- one more is
pub fits-one : (sectors most : ℕ) (old plan new : Reserved) (sector : ℕ) (bytes : List ℕ) → Fits sectors most old plan → 2 ≤ sector → sector < sectors → new ≡ with_puts plan (plan.puts ++ (sector, bytes) ∷ []) → Fits sectors (most + 1) old new
fits-one sectors most old plan new sector bytes fits low high is = subst (Fits sectors (most + 1) old) (sym is) (record {
  stand = λ h. all_append (λ (put : ℕ × List ℕ). put.0 < sectors) plan.puts _ (fits.stand h) (high, tt);
  past = λ h. all_append (λ (put : ℕ × List ℕ). 2 ≤ put.0) plan.puts _ (fits.past h) (low, tt);
  few = let few = fits.few in let n = length-append plan.puts ((sector, bytes) ∷ []) in omega arith;
  room = fits.room;
})

-- and others after them
pub fits-then : (sectors m n : ℕ) (first second third : Reserved) → Fits sectors m first second → Fits sectors n second third → Fits sectors (m + n) first third
fits-then sectors m n first second third a b = record { stand = λ h. b.stand (a.stand h); past = λ h. b.past (a.past h); few = let x = a.few in let y = b.few in omega arith; room = b.room ∙ a.room }

-- so they can be put
pub fits-put : (sectors most room : ℕ) (old plan : Reserved) → most ≤ plan_puts → old ≡ record { puts = []; room = room } → Fits sectors most old plan → CanBePut sectors plan.puts
fits-put sectors most room old plan le none fits = record {
  few = let few = fits.few in let long : length old.puts ≡ 0 = ap (λ (r : Reserved). length r.puts) none in omega (arith, le, few, long);
  stand = fits.stand (subst (λ (r : Reserved). AllByRecursion (λ (put : ℕ × List ℕ). put.0 < sectors) r.puts) (sym none) tt);
  past = fits.past (subst (λ (r : Reserved). AllByRecursion (λ (put : ℕ × List ℕ). 2 ≤ put.0) r.puts) (sym none) tt);
}

pub fits-set : (sectors most more room : ℕ) (old plan : Reserved) → most ≤ more → room ≤ 2 → old ≡ record { puts = []; room = room } → Fits sectors most old plan → CanBeSet sectors more plan
fits-set sectors most more room old plan le small none fits = record {
  few = let few = fits.few in let long : length old.puts ≡ 0 = ap (λ (r : Reserved). length r.puts) none in omega (arith, le, few, long);
  room = let same : plan.room ≡ room = fits.room ∙ ap (λ (r : Reserved). r.room) none in omega (arith, same, small);
  stand = fits.stand (subst (λ (r : Reserved). AllByRecursion (λ (put : ℕ × List ℕ). put.0 < sectors) r.puts) (sym none) tt);
  past = fits.past (subst (λ (r : Reserved). AllByRecursion (λ (put : ℕ × List ℕ). 2 ≤ put.0) r.puts) (sym none) tt);
}

-- places within a smaller number of sectors
pub within-less : (few sectors : ℕ) (places : Places) → few ≤ sectors → AreWithin few places → AreWithin sectors places
within-less few sectors places le within = record {
  body = λ k nz. let b = within.body k nz in let high = b.1 in (b.0, omega arith);
  single = λ nz. let b = within.single nz in let high = b.1 in (b.0, omega arith);
}

-- the block of addresses stands within the store where it changes
pub map-within : (sectors ino : ℕ) (old new : Places) (attr : Attr) (ws : List WriteItem) → IsReady sectors ino old new attr ws → (k : ℕ) → 10 ≤ k → k < 138 → get_or new.body k 0 ≢ get_or old.body k 0 → (2 ≤ new.single) × (new.single < sectors)
map-within sectors ino old new attr ws ready k ge lt differs = let s = ready.new.single (ready.map k ge lt differs) in let high = s.1 in (s.0, omega arith)

-- what stands before the put of the inode
pub fits-all : (sectors ino : ℕ) (old new : Places) (attr : Attr) (ws : List WriteItem) → IsReady sectors ino old new attr ws → (none cut contents all : Reserved) (still : ℕ) → still ≡ sectors
    → Fits sectors 1 none cut → (n : ℕ) → Fits still n cut contents
    → ((within : ℕ) → ((k : ℕ) → 10 ≤ k → k < 138 → get_or new.body k 0 ≢ get_or old.body k 0 → (2 ≤ new.single) × (new.single < within)) → Fits within 1 contents all)
    → Fits sectors (1 + n + 1) none all
fits-all sectors ino old new attr ws ready none cut contents all still same first n second third =
    fits-then sectors (1 + n) 1 none contents all (fits-then sectors 1 n none cut contents first (subst (λ (m : ℕ). Fits m n cut contents) same second)) (third sectors (map-within sectors ino old new attr ws ready))

-- ---- what is asked of any store

-- an empty plan can be put
pub empty-put : (sectors : ℕ) (plan : Reserved) → plan ≡ record { puts = []; room = 0 } → CanBePut sectors plan.puts
empty-put sectors plan none = fits-put sectors 0 0 plan plan (omega arith) none (fits-none sectors 0 plan)

pub empty-set : (sectors most : ℕ) (plan : Reserved) → plan ≡ record { puts = []; room = 0 } → CanBeSet sectors most plan
empty-set sectors most plan none = fits-set sectors 0 most 0 plan plan (omega arith) (omega arith) none (fits-none sectors 0 plan)

-- and asks for no room
pub empty-room : (ws : List WriteItem) (plan : Reserved) → plan ≡ record { puts = []; room = 0 } → plan.room ≤ room_for ws
empty-room ws plan none = let same : plan.room ≡ 0 = ap (λ (r : Reserved). r.room) none in omega (arith, same)

pub stale-forms : (n : ℕ) → AllByRecursion IsWriteReply (replicate n (reply.Refused stat.Stale))
stale-forms zero = tt
stale-forms (suc n) = (tt, stale-forms n)

draft-form : (o : Option Stat) (attr : Attr) → IsWriteReply (reply_of o attr)
draft-form None attr = tt
draft-form (Some status) attr = tt

draft-forms : (read_only : Bool) (d : Draft) (ws : List WriteItem) (now : ℕ) → AllByRecursion IsWriteReply (draft_replies read_only d ws now)
draft-forms read_only d [] now = tt
draft-forms read_only d (w ∷ ws) now =
    (draft-form (draft_refusal read_only d w) (attr_written d.attr w.offset (length w.bytes) now), draft-forms read_only (draft_after read_only d w now) ws now)

-- each write of a batch has its reply
pub draft-answers : (sectors : ℕ) (read_only : Bool) (d : Draft) (ws : List WriteItem) (now : ℕ) (plan : Reserved) (replies : List Reply) → replies ≡ draft_replies read_only d ws now
    → CanBePut sectors plan.puts → plan.room ≤ room_for (kept_of ws replies) → HasAnswers sectors ws plan replies
draft-answers sectors read_only d ws now plan replies are put room = record {
  plan = put;
  room = room;
  count_is = ap length are ∙ length-draft_replies read_only d ws now;
  forms = subst (AllByRecursion IsWriteReply) (sym are) (draft-forms read_only d ws now);
}

pub stale-answers : (sectors : ℕ) (ws : List WriteItem) (plan : Reserved) (replies : List Reply) → plan ≡ record { puts = []; room = 0 } → replies ≡ replicate (length ws) (reply.Refused stat.Stale) → HasAnswers sectors ws plan replies
stale-answers sectors ws plan replies none are = record {
  plan = empty-put sectors plan none;
  room = empty-room (kept_of ws replies) plan none;
  count_is = ap length are ∙ length-replicate (length ws) (reply.Refused stat.Stale);
  forms = subst (AllByRecursion IsWriteReply) (sym are) (stale-forms (length ws));
}
