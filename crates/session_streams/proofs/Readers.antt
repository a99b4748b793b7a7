-- What a reader of a source's lines has read, call by call.
use Rattle.std.proofs.Common.{◌≡◌, ◌∙◌, sym, ap, subst, refl, ℕ, ◌+◌, ◌-◌, ◌^◌, ◌<◌, ◌≤◌, Bool, true, false, List, [], ◌∷◌, ◌++◌, length, take, min, arith}
use Rattle.std.proofs.lemmas.List.{append-nil, append_assoc, take_all, length-append}
use Rattle.std.proofs.Math.Seq.{take-append-add}
use Rattle.std.specs.Prelude.{Option, Result, Ok, Err, IfErr, IsErrAnd}
use Rattle.std.specs.List.{AllZip}
use Rattle.std.specs.Option.{option_to_list}
use Rattle.std.specs.Io.KnownBytes.{Consumes, IsAtEnd, Keeps}
use Rattle.outside.specs.Cause.{next_count, Rose}
use Rattle.std.proofs.Math.Nat.{min-le_left, min-le_right, le-min}
use Rattle.session_lines.specs.declared.command.Command.{Command}
use Rattle.session_lines.specs.Commands.{commands_in, commands_of, text_lines}
use Rattle.session_lines.specs.Reading.{MayCome}
use Rattle.session_words.specs.declared.line.Line.{Line}
use Rattle.session_words.specs.Lines.{IsLine}
use Rattle.session_words.specs.Reading.{Left, KeepsLines, GivesLine, GivesNoLine, commands_left}
use Rattle.session_streams.specs.declared.reading.Reader.{Reader}
use Rattle.session_streams.specs.declared.reading.ReadEnd.{ReadEnd}
use Rattle.session_streams.specs.declared.reading.ReadEnd.TheVariants.{Ended, ReadFault, FullInput, OutOfMemory}
use Rattle.session_streams.specs.Reads.{HasRead, IsReadEnd}
use Rattle.session_streams.specs.Reads.{IsUnread, IsReading, HasEnded, ReadsOn, EndsReading}
use Rattle.session_streams.specs.Private.{EndsReadingHere}
use Rattle.session_streams.proofs.Known.{Consumes-both, Consumes-keeps, Consumes-nothing}

-- FAULTS

pub rose_later : (a b c : ℕ) → a ≤ b → Rose b c → Rose a c
rose_later a b c low rose =
    let first : min (a + 1) (2 ^ 64 - 1) ≤ b + 1 = omega (arith, min-le_left (a + 1) (2 ^ 64 - 1), low) in
    let one : next_count a ≤ next_count b = le-min first (min-le_right (a + 1) (2 ^ 64 - 1)) in
    omega (arith, one, rose)

pub read_end_later : (end : ReadEnd) (a b c : ℕ) (taken : List ℕ) (ended : Bool) (left : List Command) → a ≤ b → IsReadEnd end b c taken ended left → IsReadEnd end a c taken ended left
read_end_later Ended a b c taken ended left low why = why
read_end_later ReadFault a b c taken ended left low why = (rose_later a b c low why.0, why.1, why.2)
read_end_later FullInput a b c taken ended left low why = why
read_end_later OutOfMemory a b c taken ended left low why = why

-- LINES

zip_one : (cs : List Command) (ls : List Line) (c : Command) (l : Line) → AllZip IsLine cs ls → IsLine c l → AllZip IsLine (cs ++ c ∷ []) (ls ++ l ∷ [])
zip_one [] [] c l all one = (one, tt)
zip_one [] (l' ∷ ls) c l all one = absurd all
zip_one (c' ∷ cs) [] c l all one = absurd all
zip_one (c' ∷ cs) (l' ∷ ls) c l all one = (all.0, zip_one cs ls c l all.1 one)

may_come : (a b : Bool) (more : List ℕ) (ended : Bool) → a ≡ b → MayCome b more ended → MayCome a more ended
may_come a b more ended same may is = may (sym same ∙ is)

may_end : (ended : Bool) → MayCome ended [] ended
may_end ended is = (refl, is)

not_ended : (more : List ℕ) (ended : Bool) → MayCome false more ended
not_ended more ended is = let wrong : false ≡ true = is in absurd cc

-- nothing was read at first
pub unread : (first : Option (List ℕ)) (reader : Reader) → IsUnread reader → IsReading first first [] [] reader
unread first reader (none, open_, fresh) = record {
  takes = Consumes-nothing first;
  count = sym none;
  most = omega arith;
  same = ap (λ (z : Left). z.fed.ended) fresh ∙ sym open_;
  at_end = λ is. let wrong : false ≡ true = sym open_ ∙ is in absurd cc;
  within = λ is. omega arith;
  given = [];
  say = tt;
  commands = λ more ended may. ap (λ (z : Left). commands_left z more ended) (sym fresh);
}

-- a line is given
pub gives : (first now : Option (List ℕ)) (taken : List ℕ) (lines : List Line) (old new : Reader) (line : Line) → IsReading first now taken lines old → new.taken ≡ old.taken → new.ended ≡ old.ended →
    GivesLine old.commands line new.commands → IsReading first now taken (lines ++ line ∷ []) new
gives first now taken lines old new line r count flag g = record {
  takes = r.takes;
  count = r.count ∙ sym count;
  most = r.most;
  same = g.ended ∙ (r.same ∙ sym flag);
  at_end = λ is. r.at_end (sym flag ∙ is);
  within = λ is. r.within (sym flag ∙ is);
  given = r.given ++ g.command ∷ [];
  say = zip_one r.given lines g.command line r.say g.line_is;
  commands = λ more ended may.
      let here = may_come old.ended new.ended more ended (sym flag) may in
      r.commands more ended here ∙ (ap (λ l. r.given ++ l) (g.commands more ended (may_come old.commands.fed.ended old.ended more ended r.same here))
      ∙ sym (append_assoc r.given (g.command ∷ []) (commands_left new.commands more ended)));
}

-- none is, and the reader has the same commands
pub keeps : (first now : Option (List ℕ)) (taken : List ℕ) (lines : List Line) (old new : Reader) → IsReading first now taken lines old → new.taken ≡ old.taken → new.ended ≡ old.ended →
    KeepsLines old.commands new.commands → IsReading first now taken lines new
keeps first now taken lines old new r count flag k = record {
  takes = r.takes;
  count = r.count ∙ sym count;
  most = r.most;
  same = k.ended ∙ (r.same ∙ sym flag);
  at_end = λ is. r.at_end (sym flag ∙ is);
  within = λ is. r.within (sym flag ∙ is);
  given = r.given;
  say = r.say;
  commands = λ more ended may.
      let here = may_come old.ended new.ended more ended (sym flag) may in
      r.commands more ended here ∙ ap (λ l. r.given ++ l) (k.commands more ended (may_come old.commands.fed.ended old.ended more ended r.same here));
}

-- where no line is whole, nothing is left in what was read
pub none_left : (old new : Left) → GivesNoLine old new → commands_left new [] new.fed.ended ≡ []
none_left old new g =
    ap (λ e. commands_left new [] e) g.keeps.ended ∙ (sym (g.keeps.commands [] old.fed.ended (may_end old.fed.ended)) ∙ g.none)

-- what was read, and what is left of it
pub has_read : (first now : Option (List ℕ)) (taken : List ℕ) (lines : List Line) (reader : Reader) → IsReading first now taken lines reader →
    HasRead first now taken reader.ended lines (commands_left reader.commands [] reader.ended)
has_read first now taken lines reader r = record {
  takes = r.takes;
  most = r.most;
  at_end = r.at_end;
  within = r.within;
  given = r.given;
  in_order = ap (λ l. commands_in l reader.ended) (sym (append-nil (take 67108864 taken))) ∙ r.commands [] reader.ended (may_end reader.ended);
  say = r.say;
}

read_nil : (first now : Option (List ℕ)) (taken : List ℕ) (ended : Bool) (lines : List Line) (left : List Command) → HasRead first now taken ended lines left → HasRead first now (taken ++ []) ended lines left
read_nil first now taken ended lines left h = subst (λ l. HasRead first now l ended lines left) (sym (append-nil taken)) h

pub reading_nil : (first now : Option (List ℕ)) (taken : List ℕ) (lines : List Line) (reader : Reader) → IsReading first now taken lines reader → IsReading first now (taken ++ []) lines reader
reading_nil first now taken lines reader r = subst (λ l. IsReading first now l lines reader) (sym (append-nil taken)) r

pub lines_nil : (first now : Option (List ℕ)) (taken : List ℕ) (lines : List Line) (reader : Reader) → IsReading first now taken lines reader → IsReading first now taken (lines ++ []) reader
lines_nil first now taken lines reader r = subst (λ l. IsReading first now taken l reader) (sym (append-nil lines)) r

module _ (first now : Option (List ℕ)) (taken : List ℕ) (lines : List Line) (reader : Reader) (faults faults_then : ℕ) where
  -- the input ended
  pub ends_ended : IsReading first now taken lines reader → reader.ended ≡ true → commands_left reader.commands [] reader.ended ≡ [] → HasEnded first now taken lines Ended faults faults_then
  ends_ended r is none = record {
    more = [];
    ended = reader.ended;
    left = commands_left reader.commands [] reader.ended;
    read = read_nil first now taken reader.ended lines (commands_left reader.commands [] reader.ended) (has_read first now taken lines reader r);
    why = (is, none);
  }

  -- memory ran out over a line
  pub ends_memory : IsReading first now taken lines reader → HasEnded first now taken lines OutOfMemory faults faults_then
  ends_memory r = record {
    more = [];
    ended = reader.ended;
    left = commands_left reader.commands [] reader.ended;
    read = read_nil first now taken reader.ended lines (commands_left reader.commands [] reader.ended) (has_read first now taken lines reader r);
    why = tt;
  }

  -- the input is too long
  pub ends_full : IsReading first now taken lines reader → reader.ended ≡ false → 67108864 < reader.taken → commands_left reader.commands [] false ≡ [] → HasEnded first now taken lines FullInput faults faults_then
  ends_full r open_ full none = record {
    more = [];
    ended = reader.ended;
    left = commands_left reader.commands [] reader.ended;
    read = read_nil first now taken reader.ended lines (commands_left reader.commands [] reader.ended) (has_read first now taken lines reader r);
    why = (ap length (append-nil taken) ∙ omega (arith, full, r.count, r.most), open_, ap (λ e. commands_left reader.commands [] e) open_ ∙ none);
  }

-- a call that takes nothing
same_source : (first now then_ : Option (List ℕ)) (taken : List ℕ) (lines : List Line) (reader : Reader) → Keeps now then_ → reader.ended ≡ false → IsReading first now taken lines reader →
    IsReading first then_ taken lines reader
same_source first now then_ taken lines reader same open_ r = record {
  takes = Consumes-keeps first now then_ taken r.takes same;
  count = r.count;
  most = r.most;
  same = r.same;
  at_end = λ is. let wrong : false ≡ true = sym open_ ∙ is in absurd cc;
  within = r.within;
  given = r.given;
  say = r.say;
  commands = r.commands;
}

-- the source failed
pub ends_fault : (first now then_ : Option (List ℕ)) (taken : List ℕ) (lines : List Line) (reader : Reader) (faults faults_then : ℕ) → Keeps now then_ → Rose faults faults_then →
    IsReading first now taken lines reader → reader.ended ≡ false → commands_left reader.commands [] false ≡ [] → HasEnded first then_ taken lines ReadFault faults faults_then
ends_fault first now then_ taken lines reader faults faults_then same rose r open_ none = record {
  more = [];
  ended = reader.ended;
  left = commands_left reader.commands [] reader.ended;
  read = read_nil first then_ taken reader.ended lines (commands_left reader.commands [] reader.ended)
      (has_read first then_ taken lines reader (same_source first now then_ taken lines reader same open_ r));
  why = (rose, open_, ap (λ e. commands_left reader.commands [] e) open_ ∙ none);
}

-- PIECES

take_short : {X : Type 0} (n : ℕ) (xs : List X) → length xs ≤ n → take n xs ≡ xs
take_short n xs h = take_all n xs h

-- the counted bytes of more that are taken
counted : (taken bytes : List ℕ) → length taken ≤ 67108864 → take 67108864 (taken ++ bytes) ≡ taken ++ take (67108864 - length taken) bytes
counted taken bytes h =
    let all : 67108864 ≡ length taken + (67108864 - length taken) = omega (arith, h) in
    ap (λ n. take n (taken ++ bytes)) all ∙ take-append-add taken bytes (67108864 - length taken)

fed_left : (old : Left) (piece more : List ℕ) (ended : Bool) → commands_left (record old { fed = record old.fed { left = old.fed.left ++ piece } }) more ended ≡ commands_left old (piece ++ more) ended
fed_left old piece more ended = ap (λ l. option_to_list old.held ++ commands_of ended (text_lines l ended) old.fed.edit) (append_assoc old.fed.left piece more)

-- a piece was taken and fed, but for a byte too many
pub feeds : (first now then_ : Option (List ℕ)) (taken bytes : List ℕ) (lines : List Line) (old new : Reader) → Consumes now then_ bytes → length taken ≤ 67108864 → length bytes + length taken ≤ 67108865 →
    new.taken ≡ old.taken + length bytes → new.ended ≡ false → old.ended ≡ false →
    new.commands ≡ record old.commands { fed = record old.commands.fed { left = old.commands.fed.left ++ take (67108864 - old.taken) bytes } } →
    IsReading first now taken lines old → IsReading first then_ (taken ++ bytes) lines new
feeds first now then_ taken bytes lines old new takes low most count open_ was fed r =
    let piece : List ℕ = take (67108864 - old.taken) bytes in
    let all : take 67108864 (taken ++ bytes) ≡ taken ++ piece = counted taken bytes low ∙ ap (λ n. taken ++ take (67108864 - n) bytes) r.count in
    let whole : take 67108864 taken ≡ taken = take_short 67108864 taken low in
    record {
      takes = Consumes-both first now then_ taken bytes r.takes takes;
      count = omega (arith, length-append taken bytes, r.count, count);
      most = omega (arith, length-append taken bytes, most);
      same = ap (λ (z : Left). z.fed.ended) fed ∙ (r.same ∙ (was ∙ sym open_));
      at_end = λ is. let wrong : false ≡ true = sym open_ ∙ is in absurd cc;
      within = λ is. let wrong : false ≡ true = sym open_ ∙ is in absurd cc;
      given = r.given;
      say = r.say;
      commands = λ more ended may.
          ap (λ l. commands_in (l ++ more) ended) all ∙ (ap (λ l. commands_in l ended) (append_assoc taken piece more)
          ∙ (ap (λ l. commands_in (l ++ (piece ++ more)) ended) (sym whole)
          ∙ (r.commands (piece ++ more) ended (may_come old.ended false (piece ++ more) ended was (not_ended (piece ++ more) ended))
          ∙ ap (λ l. r.given ++ l) (sym (ap (λ (z : Left). commands_left z more ended) fed ∙ fed_left old.commands piece more ended)))));
    }

-- a piece was taken, and memory ran out before it was fed
pub ends_unfed : (first now then_ : Option (List ℕ)) (taken bytes : List ℕ) (lines : List Line) (old : Reader) (faults faults_then : ℕ) → Consumes now then_ bytes → length taken ≤ 67108864 →
    length bytes + length taken ≤ 67108865 → old.ended ≡ false → IsReading first now taken lines old → HasEnded first then_ taken lines OutOfMemory faults faults_then
ends_unfed first now then_ taken bytes lines old faults faults_then takes low most was r =
    let piece : List ℕ = take (67108864 - length taken) bytes in
    let whole : take 67108864 taken ≡ taken = take_short 67108864 taken low in
    record {
      more = bytes;
      ended = false;
      left = commands_left old.commands piece false;
      read = record {
        takes = Consumes-both first now then_ taken bytes r.takes takes;
        most = omega (arith, length-append taken bytes, most);
        at_end = λ is. let wrong : false ≡ true = is in absurd cc;
        within = λ is. let wrong : false ≡ true = is in absurd cc;
        given = r.given;
        in_order = ap (λ l. commands_in l false) (counted taken bytes low ∙ ap (λ l. l ++ piece) (sym whole))
            ∙ r.commands piece false (may_come old.ended false piece false was (not_ended piece false));
        say = r.say;
      };
      why = tt;
    }

-- the source answered its end
pub finishes : (first now then_ : Option (List ℕ)) (taken : List ℕ) (lines : List Line) (old new : Reader) → Consumes now then_ [] → IsAtEnd then_ → length taken ≤ 67108864 →
    new.taken ≡ old.taken → new.ended ≡ true → old.ended ≡ false → new.commands ≡ record old.commands { fed = record old.commands.fed { ended = true } } →
    IsReading first now taken lines old → IsReading first then_ (taken ++ []) lines new
finishes first now then_ taken lines old new takes end low count is was fed r = record {
  takes = Consumes-both first now then_ taken [] r.takes takes;
  count = ap length (append-nil taken) ∙ (r.count ∙ sym count);
  most = subst (λ l. length l ≤ 67108865) (sym (append-nil taken)) (omega (arith, low));
  same = ap (λ (z : Left). z.fed.ended) fed ∙ sym is;
  at_end = λ e. end;
  within = λ e. subst (λ l. length l ≤ 67108864) (sym (append-nil taken)) low;
  given = r.given;
  say = r.say;
  commands = λ more ended may.
      ap (λ l. commands_in (take 67108864 l ++ more) ended) (append-nil taken)
      ∙ (r.commands more ended (may_come old.ended false more ended was (not_ended more ended)) ∙ ap (λ (z : Left). r.given ++ commands_left z more ended) (sym fed));
}

-- IN THE WORDS OF THE CALLS

-- a line was given
pub given_line : (now : Option (List ℕ)) (old new : Reader) (line : Line) → new.taken ≡ old.taken → new.ended ≡ old.ended → GivesLine old.commands line new.commands → ReadsOn now old now new (line ∷ [])
given_line now old new line count flag g first taken lines r = ([], reading_nil first now taken (lines ++ line ∷ []) new (gives first now taken lines old new line r count flag g))

-- none was
pub given_none : (now : Option (List ℕ)) (old new : Reader) → new.taken ≡ old.taken → new.ended ≡ old.ended → GivesNoLine old.commands new.commands → ReadsOn now old now new []
given_none now old new count flag g first taken lines r =
    ([], reading_nil first now taken (lines ++ []) new (lines_nil first now taken lines new (keeps first now taken lines old new r count flag g.keeps)))

-- one call after another
pub then_reads : (a b c : Option (List ℕ)) (old mid new : Reader) (more : List Line) → ReadsOn a old b mid [] → ReadsOn b mid c new more → ReadsOn a old c new more
then_reads a b c old mid new more p q first taken lines r =
    let x = p first taken lines r in
    let y = q first (taken ++ x.0) lines (subst (λ l. IsReading first b (taken ++ x.0) l mid) (append-nil lines) x.1) in
    (x.0 ++ y.0, subst (λ l. IsReading first c l (lines ++ more) new) (append_assoc taken x.0 y.0) y.1)

pub then_ends : (a b c : Option (List ℕ)) (old mid : Reader) (end : ReadEnd) (f g h : ℕ) → f ≤ g → ReadsOn a old b mid [] → EndsReading b mid c end g h → EndsReading a old c end f h
then_ends a b c old mid end f g h low p q first taken lines r =
    let x = p first taken lines r in
    let y = q first (taken ++ x.0) lines (subst (λ l. IsReading first b (taken ++ x.0) l mid) (append-nil lines) x.1) in record {
      more = x.0 ++ y.more;
      ended = y.ended;
      left = y.left;
      read = subst (λ l. HasRead first c l y.ended lines y.left) (append_assoc taken x.0 y.more) y.read;
      why = subst (λ l. IsReadEnd end f h l y.ended y.left) (append_assoc taken x.0 y.more) (read_end_later end f g h ((taken ++ x.0) ++ y.more) y.ended y.left low y.why);
    }

-- nothing more was read
pub reads_nothing : (now : Option (List ℕ)) (reader : Reader) → ReadsOn now reader now reader []
reads_nothing now reader first taken lines r = ([], reading_nil first now taken (lines ++ []) reader (lines_nil first now taken lines reader r))

-- memory ran out over a line
pub ends_untold : (now : Option (List ℕ)) (old new : Reader) (f g : ℕ) → new.taken ≡ old.taken → new.ended ≡ old.ended → KeepsLines old.commands new.commands → EndsReading now old now OutOfMemory f g
ends_untold now old new f g count flag k first taken lines r = ends_memory first now taken lines new f g (keeps first now taken lines old new r count flag k)

-- where no line is whole, nothing is left in what was read
left_none : (first now : Option (List ℕ)) (taken : List ℕ) (lines : List Line) (old new : Reader) → GivesNoLine old.commands new.commands → IsReading first now taken lines new →
    commands_left new.commands [] new.ended ≡ []
left_none first now taken lines old new n r = ap (λ e. commands_left new.commands [] e) (sym r.same) ∙ none_left old.commands new.commands n

-- the input has ended, and no line is left
pub ends_done : (now : Option (List ℕ)) (old new : Reader) (f g : ℕ) → new.taken ≡ old.taken → new.ended ≡ old.ended → GivesNoLine old.commands new.commands → new.ended ≡ true → EndsReading now old now Ended f g
ends_done now old new f g count flag n is first taken lines r =
    let k = keeps first now taken lines old new r count flag n.keeps in
    ends_ended first now taken lines new f g k is (left_none first now taken lines old new n k)

-- no line is whole, and the reading ends at the next piece
pub ends_at : (now then_ : Option (List ℕ)) (old mid : Reader) (end : ReadEnd) (f g : ℕ) → mid.taken ≡ old.taken → mid.ended ≡ old.ended → GivesNoLine old.commands mid.commands → mid.ended ≡ false →
    EndsReadingHere now mid then_ end f g → EndsReading now old then_ end f g
ends_at now then_ old mid end f g count flag n is ends first taken lines r =
    let k = keeps first now taken lines old mid r count flag n.keeps in
    ends (ap (λ e. commands_left mid.commands [] e) (sym is) ∙ left_none first now taken lines old mid n k) first taken lines k

-- no line is whole, and the next piece is read
pub reads_piece : (now then_ : Option (List ℕ)) (old mid new : Reader) → mid.taken ≡ old.taken → mid.ended ≡ old.ended → GivesNoLine old.commands mid.commands → ReadsOn now mid then_ new [] →
    ReadsOn now old then_ new []
reads_piece now then_ old mid new count flag n on = then_reads now now then_ old mid new [] (given_none now old mid count flag n) on

-- an end that is handed on
pub handed_on : {T : Type 0} (P : ReadEnd → Type 0) (r : Result T ReadEnd) (end : ReadEnd) → IsErrAnd r (λ e. e ≡ end) → P end → IfErr r P
handed_on P (Ok x) end h p = absurd h
handed_on P (Err e) end h p = subst P (sym h) p
