-- Values one behind the other: one more is read, or none stands there.
use Rattle.std.proofs.Common.{◌≡◌, ◌∙◌, refl, sym, ap, subst, ℕ, zero, suc, ◌+◌, ◌<◌, ◌^◌, List, [], ◌∷◌, ◌++◌, length, arith, append_assoc}
use Rattle.std.specs.List.{AllByRecursion}
use Rattle.std.proofs.lemmas.Grind.{flat_map-append}
use Rattle.std.proofs.lemmas.List.{length-append}
use Rattle.std.proofs.lemmas.List.Concat.{flat_map-cons}
use Rattle.proof_codec.specs.declared.reader.ReadFault.{ReadFault}
use Rattle.proof_codec.specs.declared.reader.ReadFault.TheVariants as faults
use Rattle.proof_codec.specs.Forms.{BeginsNone}
use Rattle.proof_codec.specs.Private.{IsReadAs, Misses, AreItems, items_bytes}
use Rattle.proof_codec.specs.Numbers.{FitsU32, number_bytes}
use Rattle.proof_codec.specs.Parts.{IsList, list_bytes}

-- a list parted before its element at this place
pub record Parted {A : Type 0} (i : ℕ) (xs : List A) : Type 0 where
  pub front : List A
  pub middle : A
  pub behind : List A
  pub is : xs ≡ front ++ middle ∷ behind
  pub count : length front ≡ i

pub parted : {A : Type 0} → (i : ℕ) (xs : List A) → i < length xs → Parted i xs
parted i [] small = absurd (omega arith)
parted zero (x ∷ xs) small = record { front = []; middle = x; behind = xs; is = refl; count = refl }
parted (suc i) (x ∷ xs) small =
    let p = parted i xs (omega arith) in
    record { front = x ∷ p.front; middle = p.middle; behind = p.behind; is = ap (λ ys. x ∷ ys) p.is; count = ap suc p.count }

pub all_of_both : {A : Type 0} → (P : A → Type 0) (xs ys : List A) → AllByRecursion P (xs ++ ys) → AllByRecursion P xs × AllByRecursion P ys
all_of_both P [] ys all = (tt, all)
all_of_both P (x ∷ xs) ys all = let rest = all_of_both P xs ys all.1 in ((all.0, rest.0), rest.1)

pub both_all : {A : Type 0} → (P : A → Type 0) (xs ys : List A) → AllByRecursion P xs → AllByRecursion P ys → AllByRecursion P (xs ++ ys)
both_all P [] ys a b = b
both_all P (x ∷ xs) ys a b = (a.0, both_all P xs ys a.1 b)

module _ {A : Type 0} (P : A → Type 0) (f : A → List ℕ) where
  abbrev bytes_behind : List A → A → List A → List ℕ → List ℕ
  bytes_behind front x behind others = items_bytes f front ++ (f x ++ (items_bytes f behind ++ others))

  regrouped : (front : List A) (x : A) (behind : List A) (others : List ℕ) → items_bytes f (front ++ x ∷ behind) ++ others ≡ bytes_behind front x behind others
  regrouped front x behind others =
      ap (λ bytes. bytes ++ others) (flat_map-append f front (x ∷ behind) ∙ ap (λ bytes. items_bytes f front ++ bytes) (flat_map-cons f x behind))
      ∙ append_assoc (items_bytes f front) (f x ++ items_bytes f behind) others
      ∙ ap (λ bytes. items_bytes f front ++ bytes) (append_assoc (f x) (items_bytes f behind) others)

  -- what begins there as a list of more than i begins with what was read, and goes on behind it
  goes_on : (start : List ℕ) (i : ℕ) (xs : List A) (mid : List ℕ) (ys : List A) (others : List ℕ) → IsReadAs (AreItems P i) (items_bytes f) start xs mid
      → AllByRecursion P ys → start ≡ items_bytes f ys ++ others → i < length ys
      → (x : A) × (behind : List A) × (ys ≡ xs ++ x ∷ behind) × P x × (mid ≡ f x ++ (items_bytes f behind ++ others))
  goes_on start i xs mid ys others so_far good is more =
      let p = parted i ys more in
      let all = all_of_both P p.front (p.middle ∷ p.behind) (subst (AllByRecursion P) p.is good) in
      let split : start ≡ items_bytes f p.front ++ (f p.middle ++ (items_bytes f p.behind ++ others)) = is ∙ ap (λ zs. items_bytes f zs ++ others) p.is ∙ regrouped p.front p.middle p.behind others in
      let same = so_far.only p.front (f p.middle ++ (items_bytes f p.behind ++ others)) (record { good = (p.count, all.0); split = split }) in
      (p.middle, p.behind, p.is ∙ ap (λ zs. zs ++ p.middle ∷ p.behind) same.0, all.1.0, sym same.1)

  pub one_more : (start : List ℕ) (i : ℕ) (xs : List A) (mid : List ℕ) (x : A) (next : List ℕ) → IsReadAs (AreItems P i) (items_bytes f) start xs mid → IsReadAs P f mid x next
      → IsReadAs (AreItems P (i + 1)) (items_bytes f) start (xs ++ x ∷ []) next
  one_more start i xs mid x next so_far one = record {
    here = record {
      good = (omega (arith, length-append xs (x ∷ []), so_far.here.good.0), both_all P xs (x ∷ []) so_far.here.good.1 (one.here.good, tt));
      split = so_far.here.split ∙ ap (λ bytes. items_bytes f xs ++ bytes) one.here.split ∙ sym (regrouped xs x [] next);
    };
    only = λ ys others begins.
        let more = goes_on start i xs mid ys others so_far begins.good.1 begins.split (omega (arith, begins.good.0)) in
        let none : more.1 ≡ [] = no_more xs more.0 more.1 i so_far.here.good.0 (ap length (sym more.2) ∙ begins.good.0) in
        let same = one.only more.0 (items_bytes f more.1 ++ others) (record { good = more.3; split = more.4 }) in
        (more.2 ∙ ap (λ zs. xs ++ more.0 ∷ zs) none ∙ ap (λ z. xs ++ z ∷ []) same.0, sym (ap (λ zs. items_bytes f zs ++ others) none) ∙ same.1);
  } where
    no_more : (xs : List A) (x : A) (behind : List A) (i : ℕ) → length xs ≡ i → length (xs ++ x ∷ behind) ≡ i + 1 → behind ≡ []
    no_more xs x [] i long longer = refl
    no_more xs x (y ∷ ys) i long longer = absurd (omega (arith, length-append xs (x ∷ y ∷ ys)))

  pub no_more_items : (start : List ℕ) (i count : ℕ) (xs : List A) (mid : List ℕ) → i < count → IsReadAs (AreItems P i) (items_bytes f) start xs mid → BeginsNone P f mid
      → BeginsNone (AreItems P count) (items_bytes f) start
  no_more_items start i count xs mid small so_far bad = record {
    none = λ ys others begins.
        let more = goes_on start i xs mid ys others so_far begins.good.1 begins.split (omega (arith, begins.good.0)) in
        bad.none more.0 (items_bytes f more.1 ++ others) (record { good = more.3; split = more.4 });
  }

  pub no_items : (start : List ℕ) → IsReadAs (AreItems P 0) (items_bytes f) start [] start
  no_items start = record {
    here = record { good = (refl, tt); split = refl };
    only = λ ys others begins. none ys others start begins.good.0 begins.split;
  } where
    none : (ys : List A) (others start : List ℕ) → length ys ≡ 0 → start ≡ items_bytes f ys ++ others → (ys ≡ []) × (others ≡ start)
    none [] others start count is = (refl, sym is)
    none (y ∷ ys) others start count is = absurd (omega arith)

  pub no_items_there : (e : ReadFault) (start : List ℕ) (i count : ℕ) (xs : List A) (mid : List ℕ) → i < count → IsReadAs (AreItems P i) (items_bytes f) start xs mid → Misses P f mid e
      → Misses (AreItems P count) (items_bytes f) start e
  no_items_there faults.Bad start i count xs mid small so_far bad = no_more_items start i count xs mid small so_far bad
  no_items_there faults.OutOfMemory start i count xs mid small so_far bad = tt

  -- a list is the number of its members, and the members
  behind_count : (old mid : List ℕ) (count : ℕ) (ys : List A) (others : List ℕ) → IsReadAs FitsU32 number_bytes old count mid → IsList P ys → old ≡ list_bytes f ys ++ others
      → (length ys ≡ count) × (mid ≡ items_bytes f ys ++ others)
  behind_count old mid count ys others counted good is =
      let same = counted.only (length ys) (items_bytes f ys ++ others) (record { good = good.0; split = is ∙ append_assoc (number_bytes (length ys)) (items_bytes f ys) others }) in
      (same.0, sym same.1)

  pub list_read : (old mid new : List ℕ) (count : ℕ) (xs : List A) → IsReadAs FitsU32 number_bytes old count mid → IsReadAs (AreItems P count) (items_bytes f) mid xs new → IsReadAs (IsList P) (list_bytes f) old xs new
  list_read old mid new count xs counted many = record {
    here = record {
      good = (subst (λ n. n < 2 ^ 32) (sym many.here.good.0) counted.here.good, many.here.good.1);
      split = counted.here.split ∙ ap (λ b. number_bytes count ++ b) many.here.split ∙ sym (append_assoc (number_bytes count) (items_bytes f xs) new)
          ∙ ap (λ n. (number_bytes n ++ items_bytes f xs) ++ new) (sym many.here.good.0);
    };
    only = λ ys others begins.
        let is = behind_count old mid count ys others counted begins.good begins.split in
        many.only ys others (record { good = (is.0, begins.good.1); split = is.1 });
  }

  pub no_list : (fault : ReadFault) (old mid : List ℕ) (count : ℕ) → IsReadAs FitsU32 number_bytes old count mid → Misses (AreItems P count) (items_bytes f) mid fault → Misses (IsList P) (list_bytes f) old fault
  no_list faults.OutOfMemory old mid count counted bad = tt
  no_list faults.Bad old mid count counted bad = record {
    none = λ ys others begins.
        let is = behind_count old mid count ys others counted begins.good begins.split in
        bad.none ys others (record { good = (is.0, begins.good.1); split = is.1 });
  }

  pub no_count : (fault : ReadFault) (old : List ℕ) → Misses FitsU32 number_bytes old fault → Misses (IsList P) (list_bytes f) old fault
  no_count faults.OutOfMemory old bad = tt
  no_count faults.Bad old bad = record {
    none = λ ys others begins. bad.none (length ys) (items_bytes f ys ++ others) (record { good = begins.good.0; split = begins.split ∙ append_assoc (number_bytes (length ys)) (items_bytes f ys) others });
  }

  -- lists of another length aren't there
  pub other_count : (old mid : List ℕ) (count wanted : ℕ) → IsReadAs FitsU32 number_bytes old count mid → (count ≡ wanted → ⊥) → (ys : List A) (others : List ℕ) → IsList P ys → length ys ≡ wanted → old ≡ list_bytes f ys ++ others → ⊥
  other_count old mid count wanted counted never ys others good long is = never (sym (behind_count old mid count ys others counted good is).0 ∙ long)
