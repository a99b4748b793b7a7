-- What each step at the desk tells: of the step, the seat before, the number found and the seat after.
use Rattle.std.specs.Prelude.{◌≡◌, ◌≢◌, ℕ, ◌+◌, true, false, List, [], ◌∷◌, ◌++◌, Option, Some, None}
use Rattle.atomic_table.specs.Table.{Me, Step}
use Rattle.turn_desk.specs.declared.view.View.{View}
use Rattle.turn_desk.specs.Log.{IsPrefix, entries_of, longer, shorter, HasSeen, JoinedStay, NoneFrom}

module _ {E B : Type 0} where
  -- chair 0, with nothing seen
  abbrev pub first_view : B → View E B
  first_view b = record { seated = true; acting = false; number = 0; acts = 0; made = 1; joined = []; seen = []; before = []; told = []; base = Some b }

  -- the chair has the turn, and has seen the whole log
  abbrev pub at_turn : View E B → List E → View E B
  at_turn v log = record v { acting = true; seen = log; before = log; told = [] }

  -- the chair has given the turn back
  abbrev pub after_turn : View E B → List E → View E B
  after_turn v log = record v { acting = false; acts = v.acts + 1; seen = log; before = log; told = [] }

  -- the chair that makes another, and the other
  abbrev pub maker : View E B → View E B
  maker v = record v { made = v.made + 1 }

  abbrev pub newcomer : View E B → View E B
  newcomer v = record { seated = true; acting = false; number = v.made; acts = 0; made = 0; joined = []; seen = v.seen; before = v.seen; told = []; base = v.base }

  module _ (chair_of : E → ℕ) where
    -- the chair that takes in another
    abbrev pub joined_view : View E B → View E B → View E B
    joined_view v w = record v { joined = v.joined ++ (w.number, entries_of chair_of w.number w.seen) ∷ []; seen = longer v.seen w.seen; before = v.seen; told = shorter v.seen w.seen }

  -- a chair that was taken in
  abbrev pub spent_view : View E B
  spent_view = record { seated = false; acting = false; number = 0; acts = 0; made = 0; joined = []; seen = []; before = []; told = []; base = None }

module _ {V E B : Type 0} (log_of : V → List E) (chair_of : E → ℕ) (base_of : V → B) where
  -- a seat's view with the slots that it holds
  abbrev Sat : Type 0
  Sat = Me (Option V) (View E B)

  -- the turn was taken, and the value with it. Its log begins with all that the chair had seen, and has no other act of its own
  abbrev pub TakesTurn : Sat → Sat → Type 0
  TakesTurn m n = (value : V) × (n ≡ (at_turn m.0 (log_of value), (0, Some value) ∷ []))
      × HasSeen chair_of m.0.number m.0.seen (log_of value) × (m.0.base ≡ Some (base_of value))

  abbrev pub took : Step (Option V) → Sat → ℕ → Sat → Type 0
  took st m r n = (r ≡ st.first → TakesTurn m n) × (r ≢ st.first → n ≡ m)

  -- the turn was given back, and the value with it
  abbrev pub gave : Step (Option V) → Sat → ℕ → Sat → Type 0
  gave st m r n = (value : V) → m.1 ≡ (0, Some value) ∷ []
      → (n ≡ (after_turn m.0 (log_of value), [])) × JoinedStay chair_of m.0.joined (log_of value)

  -- what the chair has seen has all its entries from before, begins with what it was told, and has the entries of the
  -- joined chairs. Of chair 0 it has none of a chair that isn't made yet
  abbrev pub learned : Step (Option V) → Sat → ℕ → Sat → Type 0
  learned st m r n = (n ≡ m) × HasSeen chair_of m.0.number m.0.before m.0.seen × IsPrefix m.0.told m.0.seen × JoinedStay chair_of m.0.joined m.0.seen × (m.0.number ≡ 0 → NoneFrom chair_of m.0.made m.0.seen)
