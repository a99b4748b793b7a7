-- What begins with the first byte of a type.
use Rattle.std.proofs.Common.{◌≡◌, ◌∙◌, sym, ap, subst, refl, ℕ, ◌+◌, ◌-◌, ◌≤◌, ◌<◌, Bool, List, ◌∷◌, ◌++◌, append_assoc, arith, IsTrue}
use Rattle.formula_core.specs.declared.Ty.{Ty, out-Ty, roll-Ty}
use Rattle.formula_core.specs.declared.Ty.TheOpen.{Ty-F, Int as IntF, Bool as BoolF, Given as GivenF, Pow as PowF, Pair as PairF, Truth as TruthF}
use Rattle.formula_core.specs.declared.Ty.TheVariants.{Int, Bool as Boolean, Given, Pow, Pair, Truth}
use Rattle.formula_core.specs.declared.Ty.TheViews.{roll-out-Ty, rolls-Int, rolls-Bool, rolls-Given, rolls-Pow, rolls-Pair, rolls-Truth}
use Rattle.formula_core.specs.declared.Ty.TheFolds.{map-Ty, fold-roll-Ty}
use Rattle.formula_core.specs.Sizes.{type_nodes, type_nodes_step}
use Rattle.formula_core.proofs.Weakening.{first_true, second_true, both_true}
use Rattle.proof_codec.specs.declared.reader.ReadFault.{ReadFault}
use Rattle.proof_codec.specs.declared.reader.ReadFault.TheVariants as faults
use Rattle.proof_codec.specs.Forms.{BeginsWith, BeginsNone}
use Rattle.proof_codec.specs.Private.{IsReadAs, Misses}
use Rattle.proof_codec.specs.Numbers.{IsByte, byte, text_bytes}
use Rattle.proof_codec.specs.Names.{IsGoodName}
use Rattle.proof_codec.specs.Types.{type_bytes_step, type_bytes, has_carriers_step, has_carriers, IsTypeWithin}

-- the bytes, the names and the number of nodes of a type, by its variant
abbrev IsTypeAt : ℕ → Ty-F Ty → Type 0
IsTypeAt room IntF = 1 ≤ room
IsTypeAt room BoolF = 1 ≤ room
IsTypeAt room (GivenF name) = (1 ≤ room) × IsGoodName name
IsTypeAt room (PowF t) = (1 ≤ room) × IsTypeWithin (room - 1) t
IsTypeAt room (PairF t u) = (1 ≤ room) × IsTrue (has_carriers t) × IsTrue (has_carriers u) × (type_nodes t + type_nodes u ≤ room - 1)
IsTypeAt room TruthF = 1 ≤ room

bytes_at : (x : Ty-F Ty) → type_bytes (roll-Ty x) ≡ type_bytes_step (map-Ty Ty (List ℕ) type_bytes x)
bytes_at x = fold-roll-Ty (List ℕ) type_bytes_step x

carriers_at : (x : Ty-F Ty) → has_carriers (roll-Ty x) ≡ has_carriers_step (map-Ty Ty Bool has_carriers x)
carriers_at x = fold-roll-Ty Bool has_carriers_step x

nodes_at : (x : Ty-F Ty) → type_nodes (roll-Ty x) ≡ type_nodes_step (map-Ty Ty ℕ type_nodes x)
nodes_at x = fold-roll-Ty ℕ type_nodes_step x

opened : (room : ℕ) (x : Ty-F Ty) → IsTrue (has_carriers_step (map-Ty Ty Bool has_carriers x)) → type_nodes_step (map-Ty Ty ℕ type_nodes x) ≤ room → IsTypeAt room x
opened room IntF named small = small
opened room BoolF named small = small
opened room (GivenF name) named small = (small, named)
opened room (PowF t) named small = (omega (arith, small), record { named = named; small = omega (arith, small) })
opened room (PairF t u) named small = (omega (arith, small), first_true (has_carriers t) (has_carriers u) named, second_true (has_carriers t) (has_carriers u) named, omega (arith, small))
opened room TruthF named small = small

closed : (room : ℕ) (x : Ty-F Ty) → IsTypeAt room x → IsTrue (has_carriers_step (map-Ty Ty Bool has_carriers x)) × (type_nodes_step (map-Ty Ty ℕ type_nodes x) ≤ room)
closed room IntF is = (refl, is)
closed room BoolF is = (refl, is)
closed room (GivenF name) is = (is.1, is.0)
closed room (PowF t) is = (is.1.named, omega (arith, is.0, is.1.small))
closed room (PairF t u) is = (both_true (has_carriers t) (has_carriers u) is.1 is.2, omega (arith, is.0, is.3))
closed room TruthF is = (refl, is)

is_within : (room : ℕ) (x : Ty-F Ty) → IsTypeAt room x → IsTypeWithin room (roll-Ty x)
is_within room x is = let c = closed room x is in record { named = carriers_at x ∙ c.0; small = subst (λ n. n ≤ room) (sym (nodes_at x)) c.1 }

-- a type that stands behind these bytes, by its variant
record Stands (room : ℕ) (bytes : List ℕ) (y : Ty) (others : List ℕ) : Type 0 where
  form : Ty-F Ty
  is : roll-Ty form ≡ y
  good : IsTypeAt room form
  split : bytes ≡ type_bytes_step (map-Ty Ty (List ℕ) type_bytes form) ++ others

stands : (room : ℕ) (bytes : List ℕ) (y : Ty) (others : List ℕ) → BeginsWith (IsTypeWithin room) type_bytes bytes y others → Stands room bytes y others
stands room bytes y others begins =
    let x = out-Ty y in
    let is : roll-Ty x ≡ y = roll-out-Ty y in
    record {
      form = x;
      is = is;
      good = opened room x (sym (carriers_at x) ∙ ap has_carriers is ∙ begins.good.named) (subst (λ n. n ≤ room) (nodes_at x) (subst (λ t. type_nodes t ≤ room) (sym is) begins.good.small));
      split = begins.split ∙ ap (λ t. type_bytes t ++ others) (sym is) ∙ ap (λ bytes. bytes ++ others) (bytes_at x);
    }

-- what is read, by its variant
made : (room : ℕ) (bytes : List ℕ) (x : Ty-F Ty) (y : Ty) (new : List ℕ) → roll-Ty x ≡ y → IsTypeAt room x → bytes ≡ type_bytes_step (map-Ty Ty (List ℕ) type_bytes x) ++ new
    → ((z : Ty-F Ty) (others : List ℕ) → IsTypeAt room z → bytes ≡ type_bytes_step (map-Ty Ty (List ℕ) type_bytes z) ++ others → (z ≡ x) × (others ≡ new))
    → IsReadAs (IsTypeWithin room) type_bytes bytes y new
made room bytes x y new is good split only = subst (λ t. IsReadAs (IsTypeWithin room) type_bytes bytes t new) is (record {
  here = record { good = is_within room x good; split = split ∙ ap (λ b. b ++ new) (sym (bytes_at x)) };
  only = λ t others begins.
      let s = stands room bytes t others begins in
      let same = only s.form others s.good s.split in
      (sym s.is ∙ ap roll-Ty same.0, same.1);
})

nothing : (room : ℕ) (bytes : List ℕ) → ((z : Ty-F Ty) (others : List ℕ) → IsTypeAt room z → bytes ≡ type_bytes_step (map-Ty Ty (List ℕ) type_bytes z) ++ others → ⊥)
    → BeginsNone (IsTypeWithin room) type_bytes bytes
nothing room bytes none = record { none = λ t others begins. let s = stands room bytes t others begins in none s.form others s.good s.split }

module _ (room : ℕ) (some : 1 ≤ room) (old mid new : List ℕ) where
  pub int_read : IsReadAs IsByte byte old 0 new → IsReadAs (IsTypeWithin room) type_bytes old Int new
  int_read first = made room old IntF Int new rolls-Int some first.here.split only
    where
      only : (z : Ty-F Ty) (others : List ℕ) → IsTypeAt room z → old ≡ type_bytes_step (map-Ty Ty (List ℕ) type_bytes z) ++ others → (z ≡ IntF) × (others ≡ new)
      only IntF others good split = (refl, let e : 0 ∷ others ≡ 0 ∷ new = sym split ∙ first.here.split in cc)
      only BoolF others good split = absurd (let e : 1 ∷ others ≡ 0 ∷ new = sym split ∙ first.here.split in cc)
      only (GivenF name) others good split = absurd (let e = sym split ∙ first.here.split in cc)
      only (PowF t) others good split = absurd (let e = sym split ∙ first.here.split in cc)
      only (PairF t u) others good split = absurd (let e = sym split ∙ first.here.split in cc)
      only TruthF others good split = absurd (let e = sym split ∙ first.here.split in cc)

  pub pow_read : (t : Ty) → IsReadAs IsByte byte old 3 mid → IsReadAs (IsTypeWithin (room - 1)) type_bytes mid t new → IsReadAs (IsTypeWithin room) type_bytes old (Pow t) new
  pow_read t first part = made room old (PowF t) (Pow t) new (rolls-Pow t) (some, part.here.good) (first.here.split ∙ ap (λ b. 3 ∷ b) part.here.split) only
    where
      only : (z : Ty-F Ty) (others : List ℕ) → IsTypeAt room z → old ≡ type_bytes_step (map-Ty Ty (List ℕ) type_bytes z) ++ others → (z ≡ PowF t) × (others ≡ new)
      only (PowF u) others good split =
          let behind : mid ≡ type_bytes u ++ others = let e : 3 ∷ mid ≡ 3 ∷ (type_bytes u ++ others) = sym first.here.split ∙ split in cc in
          let same = part.only u others (record { good = good.1; split = behind }) in
          (ap (λ v. PowF v) same.0, same.1)
      only _ others good split = absurd (let e = sym split ∙ first.here.split in cc)

  pub bool_read : IsReadAs IsByte byte old 1 new → IsReadAs (IsTypeWithin room) type_bytes old Boolean new
  bool_read first = made room old BoolF Boolean new rolls-Bool some first.here.split only
    where
      only : (z : Ty-F Ty) (others : List ℕ) → IsTypeAt room z → old ≡ type_bytes_step (map-Ty Ty (List ℕ) type_bytes z) ++ others → (z ≡ BoolF) × (others ≡ new)
      only BoolF others good split = (refl, let e : 1 ∷ others ≡ 1 ∷ new = sym split ∙ first.here.split in cc)
      only _ others good split = absurd (let e = sym split ∙ first.here.split in cc)

  pub truth_read : IsReadAs IsByte byte old 5 new → IsReadAs (IsTypeWithin room) type_bytes old Truth new
  truth_read first = made room old TruthF Truth new rolls-Truth some first.here.split only
    where
      only : (z : Ty-F Ty) (others : List ℕ) → IsTypeAt room z → old ≡ type_bytes_step (map-Ty Ty (List ℕ) type_bytes z) ++ others → (z ≡ TruthF) × (others ≡ new)
      only TruthF others good split = (refl, let e : 5 ∷ others ≡ 5 ∷ new = sym split ∙ first.here.split in cc)
      only _ others good split = absurd (let e = sym split ∙ first.here.split in cc)

  pub given_read : (name : List ℕ) → IsReadAs IsByte byte old 2 mid → IsReadAs IsGoodName text_bytes mid name new → IsReadAs (IsTypeWithin room) type_bytes old (Given name) new
  given_read name first part = made room old (GivenF name) (Given name) new (rolls-Given name) (some, part.here.good) (first.here.split ∙ ap (λ b. 2 ∷ b) part.here.split) only
    where
      only : (z : Ty-F Ty) (others : List ℕ) → IsTypeAt room z → old ≡ type_bytes_step (map-Ty Ty (List ℕ) type_bytes z) ++ others → (z ≡ GivenF name) × (others ≡ new)
      only (GivenF other) others good split =
          let behind : mid ≡ text_bytes other ++ others = let e : 2 ∷ mid ≡ 2 ∷ (text_bytes other ++ others) = sym first.here.split ∙ split in cc in
          let same = part.only other others (record { good = good.1; split = behind }) in
          (ap (λ v. GivenF v) same.0, same.1)
      only _ others good split = absurd (let e = sym split ∙ first.here.split in cc)

  pub no_given : (fault : ReadFault) → IsReadAs IsByte byte old 2 mid → Misses IsGoodName text_bytes mid fault → Misses (IsTypeWithin room) type_bytes old fault
  no_given faults.OutOfMemory first bad = tt
  no_given faults.Bad first bad = nothing room old none
    where
      none : (z : Ty-F Ty) (others : List ℕ) → IsTypeAt room z → old ≡ type_bytes_step (map-Ty Ty (List ℕ) type_bytes z) ++ others → ⊥
      none (GivenF other) others good split =
          let behind : mid ≡ text_bytes other ++ others = let e : 2 ∷ mid ≡ 2 ∷ (text_bytes other ++ others) = sym first.here.split ∙ split in cc in
          bad.none other others (record { good = good.1; split = behind })
      none _ others good split = let e = sym split ∙ first.here.split in cc

  pub no_pow : (fault : ReadFault) → IsReadAs IsByte byte old 3 mid → Misses (IsTypeWithin (room - 1)) type_bytes mid fault → Misses (IsTypeWithin room) type_bytes old fault
  no_pow faults.OutOfMemory first bad = tt
  no_pow faults.Bad first bad = nothing room old none
    where
      none : (z : Ty-F Ty) (others : List ℕ) → IsTypeAt room z → old ≡ type_bytes_step (map-Ty Ty (List ℕ) type_bytes z) ++ others → ⊥
      none (PowF u) others good split =
          let behind : mid ≡ type_bytes u ++ others = let e : 3 ∷ mid ≡ 3 ∷ (type_bytes u ++ others) = sym first.here.split ∙ split in cc in
          bad.none u others (record { good = good.1; split = behind })
      none _ others good split = let e = sym split ∙ first.here.split in cc

  pub no_type : (tag : ℕ) → IsReadAs IsByte byte old tag mid → 6 ≤ tag → BeginsNone (IsTypeWithin room) type_bytes old
  no_type tag first large = nothing room old none
    where
      none : (z : Ty-F Ty) (others : List ℕ) → IsTypeAt room z → old ≡ type_bytes_step (map-Ty Ty (List ℕ) type_bytes z) ++ others → ⊥
      none IntF others good split = let e : 0 ≡ tag = let k : 0 ∷ others ≡ tag ∷ mid = sym split ∙ first.here.split in cc in omega arith
      none BoolF others good split = let e : 1 ≡ tag = let k : 1 ∷ others ≡ tag ∷ mid = sym split ∙ first.here.split in cc in omega arith
      none (GivenF name) others good split = let e : 2 ≡ tag = let k : 2 ∷ (text_bytes name ++ others) ≡ tag ∷ mid = sym split ∙ first.here.split in cc in omega arith
      none (PowF t) others good split = let e : 3 ≡ tag = let k : 3 ∷ (type_bytes t ++ others) ≡ tag ∷ mid = sym split ∙ first.here.split in cc in omega arith
      none (PairF t u) others good split = let e : 4 ≡ tag = let k : 4 ∷ ((type_bytes t ++ type_bytes u) ++ others) ≡ tag ∷ mid = sym split ∙ first.here.split in cc in omega arith
      none TruthF others good split = let e : 5 ≡ tag = let k : 5 ∷ others ≡ tag ∷ mid = sym split ∙ first.here.split in cc in omega arith

  -- a pair, whose second part has the room that the first leaves
  module _ (t : Ty) (left : ℕ) (rest : List ℕ) (first : IsReadAs IsByte byte old 4 mid) (one : IsReadAs (IsTypeWithin (room - 1)) type_bytes mid t rest) (leaves : left + type_nodes t ≡ room - 1) where
    second : (z : Ty-F Ty) (others : List ℕ) → IsTypeAt room z → old ≡ type_bytes_step (map-Ty Ty (List ℕ) type_bytes z) ++ others
        → (u : Ty) × (z ≡ PairF t u) × BeginsWith (IsTypeWithin left) type_bytes rest u others
    second (PairF v u) others good split =
        let behind : mid ≡ type_bytes v ++ (type_bytes u ++ others) = let e : 4 ∷ mid ≡ 4 ∷ ((type_bytes v ++ type_bytes u) ++ others) = sym first.here.split ∙ split in (let k : mid ≡ (type_bytes v ++ type_bytes u) ++ others = cc in k ∙ append_assoc (type_bytes v) (type_bytes u) others) in
        let same = one.only v (type_bytes u ++ others) (record { good = record { named = good.1; small = omega (arith, good.3) }; split = behind }) in
        (u, ap (λ w. PairF w u) same.0, record { good = record { named = good.2; small = omega (arith, good.3, leaves, ap type_nodes same.0) }; split = sym same.1 })
    second _ others good split = absurd (let e = sym split ∙ first.here.split in cc)

    pub pair_read : (u : Ty) → IsReadAs (IsTypeWithin left) type_bytes rest u new → IsReadAs (IsTypeWithin room) type_bytes old (Pair t u) new
    pair_read u two = made room old (PairF t u) (Pair t u) new (rolls-Pair t u) (some, one.here.good.named, two.here.good.named, omega (arith, one.here.good.small, two.here.good.small, leaves))
        (first.here.split ∙ ap (λ b. 4 ∷ b) (one.here.split ∙ ap (λ b. type_bytes t ++ b) two.here.split ∙ sym (append_assoc (type_bytes t) (type_bytes u) new)))
        (λ z others good split.
        let s = second z others good split in
        let same = two.only s.0 others s.2 in
        (s.1 ∙ ap (λ w. PairF t w) same.0, same.1))

    pub no_second : (fault : ReadFault) → Misses (IsTypeWithin left) type_bytes rest fault → Misses (IsTypeWithin room) type_bytes old fault
    no_second faults.OutOfMemory bad = tt
    no_second faults.Bad bad = nothing room old (λ z others good split. let s = second z others good split in bad.none s.0 others s.2)

  pub no_first : (fault : ReadFault) → IsReadAs IsByte byte old 4 mid → Misses (IsTypeWithin (room - 1)) type_bytes mid fault → Misses (IsTypeWithin room) type_bytes old fault
  no_first faults.OutOfMemory first bad = tt
  no_first faults.Bad first bad = nothing room old none
    where
      none : (z : Ty-F Ty) (others : List ℕ) → IsTypeAt room z → old ≡ type_bytes_step (map-Ty Ty (List ℕ) type_bytes z) ++ others → ⊥
      none (PairF v u) others good split =
          let behind : mid ≡ type_bytes v ++ (type_bytes u ++ others) = let e : 4 ∷ mid ≡ 4 ∷ ((type_bytes v ++ type_bytes u) ++ others) = sym first.here.split ∙ split in (let k : mid ≡ (type_bytes v ++ type_bytes u) ++ others = cc in k ∙ append_assoc (type_bytes v) (type_bytes u) others) in
          bad.none v (type_bytes u ++ others) (record { good = record { named = good.1; small = omega (arith, good.3) }; split = behind })
      none _ others good split = let e = sym split ∙ first.here.split in cc

pub no_room : (old : List ℕ) → BeginsNone (IsTypeWithin 0) type_bytes old
no_room old = nothing 0 old none
  where
    none : (z : Ty-F Ty) (others : List ℕ) → IsTypeAt 0 z → old ≡ type_bytes_step (map-Ty Ty (List ℕ) type_bytes z) ++ others → ⊥
    none IntF others good split = omega (arith, good)
    none BoolF others good split = omega (arith, good)
    none (GivenF name) others good split = omega (arith, good.0)
    none (PowF t) others good split = omega (arith, good.0)
    none (PairF t u) others good split = omega (arith, good.0)
    none TruthF others good split = omega (arith, good)

pub no_byte : (room : ℕ) (fault : ReadFault) (old : List ℕ) → Misses IsByte byte old fault → Misses (IsTypeWithin room) type_bytes old fault
no_byte room faults.OutOfMemory old bad = tt
no_byte room faults.Bad old bad = nothing room old none
  where
    at : (tag : ℕ) (behind others : List ℕ) → tag < 256 → old ≡ tag ∷ behind → ⊥
    at tag behind others small is = bad.none tag behind (record { good = small; split = is })

    none : (z : Ty-F Ty) (others : List ℕ) → IsTypeAt room z → old ≡ type_bytes_step (map-Ty Ty (List ℕ) type_bytes z) ++ others → ⊥
    none IntF others good split = at 0 others others (omega arith) split
    none BoolF others good split = at 1 others others (omega arith) split
    none (GivenF name) others good split = at 2 (text_bytes name ++ others) others (omega arith) split
    none (PowF t) others good split = at 3 (type_bytes t ++ others) others (omega arith) split
    none (PairF t u) others good split = at 4 ((type_bytes t ++ type_bytes u) ++ others) others (omega arith) split
    none TruthF others good split = at 5 others others (omega arith) split
