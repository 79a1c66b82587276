-- The definitions at a small volume: what they say is what is meant.
use Rattle.std.proofs.Common.{◌≡◌, ℕ, ◌-◌, List, [], ◌∷◌, ◌++◌, length, replicate, refl, Some, None, lit<}
use Rattle.std.specs.FinMap.{get}
use Rattle.files_model.proofs.Maps.{get-tabulated}
use Rattle.v7_layout.specs.Numbers.{part, field}
use Rattle.v7_layout.specs.Records.{slot_of_bytes, inode_of}
use Rattle.files_model.specs.declared.attributes.Kind.TheVariants.{Regular}
use Rattle.files_model.specs.Files.{clipped}
use Rattle.stable.specs.Store.{Image}
use Rattle.v7_map.specs.Image.{inode_at}
use Rattle.v7_map.specs.Frame.{frame, slots_of, slot_of, address_of, Body}
use Rattle.v7_map.specs.Tree.{tree, walked, links}
use Rattle.v7_map.specs.Damage.{damage, tests, Shared, Address}
use Rattle.v7_map.specs.View.{view, files_of, body_of, body_at}
use Rattle.v7_map.specs.Stored.{sector_in, stored_sector, stored_content, read_bytes}

padded : ℕ → List ℕ → List ℕ
padded n bytes = bytes ++ replicate (n - length bytes) 0

super : List ℕ
unfolding padded
super = padded 440 (4 ∷ 0 ∷ 64 ∷ []) ++ padded 72 (1 ∷ [])

root : List ℕ
unfolding padded
root = padded 64 (padded 48 (237 ∷ 65 ∷ 2 ∷ 0 ∷ 0 ∷ 0 ∷ 0 ∷ 0 ∷ 48 ∷ 0 ∷ 0 ∷ 0 ∷ 4 ∷ []) ++ 1 ∷ 0 ∷ 0 ∷ 0 ∷ 232 ∷ 3 ∷ 0 ∷ 0 ∷ 232 ∷ 3 ∷ 0 ∷ 0 ∷ 232 ∷ 3 ∷ [])

file : List ℕ
unfolding padded
file = padded 64 (padded 48 (164 ∷ 129 ∷ 1 ∷ 0 ∷ 100 ∷ 0 ∷ 100 ∷ 0 ∷ 0 ∷ 4 ∷ 0 ∷ 0 ∷ 5 ∷ 0 ∷ 0 ∷ 6 ∷ []) ++ 1 ∷ 0 ∷ 0 ∷ 0 ∷ 232 ∷ 3 ∷ 0 ∷ 0 ∷ 232 ∷ 3 ∷ 0 ∷ 0 ∷ 232 ∷ 3 ∷ [])

slots : List ℕ
unfolding padded
slots = padded 512 (padded 16 (2 ∷ 0 ∷ 46 ∷ []) ++ padded 16 (2 ∷ 0 ∷ 46 ∷ 46 ∷ []) ++ padded 16 (3 ∷ 0 ∷ 102 ∷ []))

t : Image
unfolding padded super root file slots
t = replicate 512 0 ∷ super ∷ padded 512 (replicate 64 0 ++ root ++ file) ∷ replicate 512 0 ∷ slots ∷ replicate 512 97 ∷ replicate 512 97 ∷ replicate 57 (replicate 512 0)

isize : (frame t).isize ≡ 4
unfolding frame field part t padded super root file slots
isize = refl

only_root : walked (tree (frame t)) ≡ 2 ∷ []
unfolding frame field part t padded super root file slots walked inode_at inode_of slots_of slot_of slot_of_bytes address_of
only_root = refl

names : (frame t).slots 2 ≡ Some (2, 46 ∷ []) ∷ Some (2, 46 ∷ 46 ∷ []) ∷ Some (3, 102 ∷ []) ∷ []
unfolding frame field part t padded super root file slots walked inode_at inode_of slots_of slot_of slot_of_bytes address_of
names = refl

linked : links (tree (frame t)) 2 ≡ 2
unfolding links frame field part t padded super root file slots walked inode_at inode_of slots_of slot_of slot_of_bytes address_of
linked = refl

there : (frame t).address 3 (Body 1) ≡ 6
unfolding frame field part t padded super root file slots walked inode_at inode_of slots_of slot_of slot_of_bytes address_of
there = refl

second : get (body_at t (frame t) 3) 1 ≡ Some (replicate 512 97)
unfolding body_of clipped frame field part t padded super root file slots walked inode_at inode_of slots_of slot_of slot_of_bytes address_of
second = get-tabulated _ 2 1 (lit< tt)

node : get (view t).nodes 3 ≡ Some (record { kind = Regular; mode = 420; uid = 100; gid = 100; nlink = 1; size = 1024; atime = 1000; mtime = 1000; ctime = 1000; sectors = body_at t (frame t) 3; slots = [] })
unfolding view files_of links frame field part t padded super root file slots walked inode_at inode_of slots_of slot_of slot_of_bytes address_of
node = get-tabulated _ 17 3 (lit< tt)

free : get (view t).nodes 4 ≡ None
unfolding view files_of links frame field part t padded super root file slots walked inode_at inode_of slots_of slot_of slot_of_bytes address_of
free = get-tabulated _ 17 4 (lit< tt)

sound : damage (frame t) ≡ None
unfolding tests links frame field part t padded super root file slots walked inode_at inode_of slots_of slot_of slot_of_bytes address_of
sound = refl

-- sectors of the file by its addresses, and past them
placed : sector_in t (inode_at t 3) 1 ≡ 6
unfolding sector_in field part t padded super root file slots inode_at inode_of
placed = refl

not_placed : sector_in t (inode_at t 3) 2 ≡ 0
unfolding sector_in field part t padded super root file slots inode_at inode_of
not_placed = refl

-- bytes read at its end
last_bytes : read_bytes t (inode_at t 3) 1020 8 ≡ 97 ∷ 97 ∷ 97 ∷ 97 ∷ []
unfolding stored_content stored_sector sector_in clipped field part t padded super root file slots inode_at inode_of
last_bytes = refl

no_bytes : read_bytes t (inode_at t 3) 1024 8 ≡ []
unfolding stored_content stored_sector sector_in clipped field part t padded super root file slots inode_at inode_of
no_bytes = refl

-- a file with a single indirect block, whose second address is past the end
mapped : Image
unfolding padded super root slots
mapped = replicate 512 0 ∷ super
    ∷ padded 512 (replicate 64 0 ++ root ++ padded 64 (padded 42 (164 ∷ 129 ∷ 1 ∷ 0 ∷ 100 ∷ 0 ∷ 100 ∷ 0 ∷ 0 ∷ 0 ∷ 1 ∷ []) ++ 5 ∷ []))
    ∷ replicate 512 0 ∷ slots ∷ (padded 508 (6 ∷ 0 ∷ 0 ∷ 0 ∷ 64 ∷ []) ++ 63 ∷ 0 ∷ 0 ∷ 0 ∷ []) ∷ replicate 58 (replicate 512 97)

first_indirect : sector_in mapped (inode_at mapped 3) 10 ≡ 6
unfolding sector_in field part mapped padded super root file slots inode_at inode_of
first_indirect = refl

past_the_end : sector_in mapped (inode_at mapped 3) 11 ≡ 0
unfolding sector_in field part mapped padded super root file slots inode_at inode_of
past_the_end = refl

last_indirect : sector_in mapped (inode_at mapped 3) 137 ≡ 63
unfolding sector_in field part mapped padded super root file slots inode_at inode_of
last_indirect = refl

-- two files that share a block
shared : Image
unfolding padded super root slots
shared = replicate 512 0 ∷ super ∷ padded 512 (replicate 64 0 ++ root ++ padded 64 (padded 48 (164 ∷ 129 ∷ 1 ∷ 0 ∷ 100 ∷ 0 ∷ 100 ∷ 0 ∷ 0 ∷ 4 ∷ 0 ∷ 0 ∷ 5 ∷ 0 ∷ 0 ∷ 4 ∷ []) ++ 1 ∷ [])) ∷ replicate 512 0 ∷ slots ∷ replicate 59 (replicate 512 97)

unsound : damage (frame shared) ≡ Some (Shared 3 1)
unfolding tests links frame field part shared padded super root file slots walked inode_at inode_of slots_of slot_of slot_of_bytes address_of
unsound = refl

-- a double indirect block
doubled : Image
unfolding padded super root slots
doubled = replicate 512 0 ∷ super ∷ padded 512 (replicate 64 0 ++ root ++ padded 64 (padded 45 (164 ∷ 129 ∷ 1 ∷ 0 ∷ 100 ∷ 0 ∷ 100 ∷ 0 ∷ 0 ∷ 4 ∷ 0 ∷ 0 ∷ 5 ∷ 0 ∷ 0 ∷ 6 ∷ []) ++ 7 ∷ [])) ∷ replicate 512 0 ∷ slots ∷ replicate 59 (replicate 512 97)

double : damage (frame doubled) ≡ Some (Address 3 139)
unfolding tests links frame field part doubled padded super root file slots walked inode_at inode_of slots_of slot_of slot_of_bytes address_of
double = refl
