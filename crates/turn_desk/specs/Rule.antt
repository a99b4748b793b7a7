-- The rule of the desk's table, which has one word and one slot.
-- The word is 2 n where n turns are done, and 2 n + 1 while a chair has the next one. The value lies in the slot between turns.
use Rattle.std.specs.Prelude.{◌≡◌, ◌≢◌, ℕ, ◌+◌, ◌*◌, ◌^◌, ◌<◌, Bool, true, false, List, [], length, slice_index, Option, Some}
use Rattle.std.specs.List.{filter_map}
use mathlib.Core.Option.{some}
use mathlib.Core.Option.{Option as Place}
use lib.ListN.{get_elem?}
use Rattle.atomic_table.specs.Table.{State}
use Rattle.turn_desk.specs.declared.view.View.{View}
use Rattle.turn_desk.specs.Log.{IsPrefix, entries_of, Joined, HasSeen, NoneFrom}

-- a turn: its chair, and the entry that it added, or none
abbrev pub Turn : Type 0 → Type 0
Turn E = ℕ × Option E

-- the entries that the turns added
abbrev pub log_of_turns : {E : Type 0} → List (Turn E) → List E
log_of_turns ts = filter_map (λ t. t.1) ts

module _ {E B : Type 0} (chair_of : E → ℕ) (origin : B) (log : List E) (chairs holder : ℕ) (busy : Bool) (seat_of : ℕ → ℕ) (seat : ℕ) where
  -- what a view that is in use says of the log
  pub record Truly (v : View E B) : Type 0 where
    pub number : (v.number < chairs) × (seat_of v.number ≡ seat)
    pub seen : IsPrefix v.seen log
    pub before : HasSeen chair_of v.number v.before v.seen
    pub told : IsPrefix v.told v.seen
    pub own : entries_of chair_of v.number log ≡ entries_of chair_of v.number v.seen
    pub base : v.base ≡ Some origin
    pub acting : v.acting ≡ true → (busy ≡ true) × (seat ≡ holder) × (v.seen ≡ log)
    pub joined : (k : ℕ) (own : List E) → Joined v.joined k own → (k < chairs) × (seat_of k ≡ seat) × (k ≢ v.number) × (entries_of chair_of k log ≡ own) × (entries_of chair_of k v.seen ≡ own)
    pub alone : v.number ≢ 0 → v.joined ≡ []
    pub made : v.number ≡ 0 → v.made ≡ chairs

-- the number of the word
abbrev pub odd : Bool → ℕ
odd true = 1
odd false = 0

module _ {V E B : Type 0} (log_of : V → List E) (chair_of : E → ℕ) (base_of : V → B) (origin : B) where
  -- the value at home has the log of the turns done
  abbrev pub AtHome : List E → List (Place (Option V)) → Type 0
  AtHome log homes = (value : V) × (get_elem? homes 0 ≡ some (some (Some value))) × (log_of value ≡ log) × (base_of value ≡ origin)

  pub record Orderly (s : State (Option V) (View E B)) : Type 0 where
    pub turns : List (Turn E)
    pub busy : Bool
    pub holder : ℕ
    pub made : ℕ
    pub seat_of : ℕ → ℕ
    pub wide : length s.words ≡ 1
    pub word : slice_index s.words 0 ≡ 2 * length turns + odd busy
    pub home : busy ≡ false → AtHome (log_of_turns turns) s.homes
    pub turn : busy ≡ true → (slice_index s.words 0 + 1 < 2 ^ 64) × ((v : View E B) × (get_elem? s.views holder ≡ some v) × (v.seated ≡ true) × (v.acting ≡ true))
    pub each_seat : (j : ℕ) (v : View E B) → get_elem? s.views j ≡ some v → v.seated ≡ true → Truly chair_of origin (log_of_turns turns) made holder busy seat_of j v
    pub unmade : NoneFrom chair_of made (log_of_turns turns)
