-- Rows of words, and what they mean (docs/CALLS.md, "Words").
use Rattle.std.proofs.Common.{◌≡◌, true, false, refl, codes, List, [], ◌∷◌, Some, None}
use Rattle.clap.specs.Walk.{Text}
use Rattle.clap.proofs.OnLiterals.{clap_on_literals}
use Rattle.run_lines.specs.Naming.{Named}
use Rattle.server_words.specs.Words.{Options, asked_by}

abbrev disk : Text → Named
disk name = record { word = name; disk = name; board = None }

abbrev no_options : Options
no_options = record { workers = 1; turns = 1000000; port = 2049; down = false; accept_loss = false }

-- the words mean this disk alone, with these options
abbrev Asks : List Text → Text → Options → Type 0
Asks words name options = asked_by words ≡ Some (record { volumes = disk name ∷ []; options = options })

-- the words are not of the grammar
abbrev AreRefused : List Text → Type 0
AreRefused words = asked_by words ≡ None

-- `d`
pub a_disk_alone : Asks (codes "d" ∷ []) (codes "d") no_options
unfolding clap_on_literals
a_disk_alone = refl

-- `a:b:c d`
pub the_last_colon_cuts : asked_by (codes "a:b:c" ∷ codes "d" ∷ []) ≡ Some (record {
  volumes = record { word = codes "a:b:c"; disk = codes "a:b"; board = Some (codes "c") } ∷ disk (codes "d") ∷ [];
  options = no_options;
})
unfolding clap_on_literals
the_last_colon_cuts = refl

-- `d --turns=2`
pub an_option_with_its_value : Asks (codes "d" ∷ codes "--turns=2" ∷ []) (codes "d") (record no_options { turns = 2 })
unfolding clap_on_literals
an_option_with_its_value = refl

-- `--turns 2 d`
pub an_option_before_a_volume : Asks (codes "--turns" ∷ codes "2" ∷ codes "d" ∷ []) (codes "d") (record no_options { turns = 2 })
unfolding clap_on_literals
an_option_before_a_volume = refl

-- `--down d --port 65535 --accept-loss --workers=1`
pub all_others : Asks (codes "--down" ∷ codes "d" ∷ codes "--port" ∷ codes "65535" ∷ codes "--accept-loss" ∷ codes "--workers=1" ∷ []) (codes "d")
    (record no_options { port = 65535; down = true; accept_loss = true })
unfolding clap_on_literals
all_others = refl

-- `a b c e`
pub four_volumes : asked_by (codes "a" ∷ codes "b" ∷ codes "c" ∷ codes "e" ∷ []) ≡ Some (record {
  volumes = disk (codes "a") ∷ disk (codes "b") ∷ disk (codes "c") ∷ disk (codes "e") ∷ [];
  options = no_options;
})
unfolding clap_on_literals
four_volumes = refl

-- `a b c e f`
pub five_volumes : AreRefused (codes "a" ∷ codes "b" ∷ codes "c" ∷ codes "e" ∷ codes "f" ∷ [])
unfolding clap_on_literals
five_volumes = refl

-- no words
pub no_volume : AreRefused []
unfolding clap_on_literals
no_volume = refl

-- `d --turns 1 --turns 2`
pub turns_twice : AreRefused (codes "d" ∷ codes "--turns" ∷ codes "1" ∷ codes "--turns" ∷ codes "2" ∷ [])
unfolding clap_on_literals
turns_twice = refl

-- `d d`
pub a_disk_twice : AreRefused (codes "d" ∷ codes "d" ∷ [])
unfolding clap_on_literals
a_disk_twice = refl

-- `d:b e:b`
pub a_board_twice : AreRefused (codes "d:b" ∷ codes "e:b" ∷ [])
unfolding clap_on_literals
a_board_twice = refl

-- `d --help`
pub help_asked : AreRefused (codes "d" ∷ codes "--help" ∷ [])
unfolding clap_on_literals
help_asked = refl

-- `d --turns 0`
pub turns_of_none : AreRefused (codes "d" ∷ codes "--turns" ∷ codes "0" ∷ [])
unfolding clap_on_literals
turns_of_none = refl

-- `d --turns 00000000001`, eleven digits
pub eleven_digits : AreRefused (codes "d" ∷ codes "--turns" ∷ codes "00000000001" ∷ [])
unfolding clap_on_literals
eleven_digits = refl

-- `d --workers 2`
pub two_workers : AreRefused (codes "d" ∷ codes "--workers" ∷ codes "2" ∷ [])
unfolding clap_on_literals
two_workers = refl

-- `d --turns 2 e`
pub volumes_that_stand_apart : AreRefused (codes "d" ∷ codes "--turns" ∷ codes "2" ∷ codes "e" ∷ [])
unfolding clap_on_literals
volumes_that_stand_apart = refl
