-- What is accepted is the text of a well-formed contents.
use Rattle.std.proofs.Common.{◌≡◌, ℕ, zero, suc, ◌≤◌, Bool, true, false, cond, ltb, List, [], ◌∷◌, ◌++◌, map, length, get_or, codes, sym, refl, ap, ◌∙◌, subst}
use mathlib.Core.Option.{none}
use Rattle.std.specs.List.{AllByRecursion}
use Rattle.std.proofs.ByRecursion.{All-push}
use Rattle.std.proofs.lemmas.List.{append-nil, append_assoc}
use Rattle.std.proofs.lemmas.Bool.{both_ways}
use Rattle.format.specs.declared.Fault.{Fault}
use Rattle.format.specs.declared.Fault.TheVariants.{Length}
use Rattle.format.specs.Bytes.{Bytes, decimal}
use Rattle.book.specs.Names.{well_named}
use Rattle.format.specs.Contents.{Rule, Contents, ErrandContents, Distinct, Own, Well, WellErrand}
use Rattle.format.specs.Written.{line, digit, latch_lines, rule_lines, book_lines, book_text, errand_lines, errand_text}
use Rattle.format.specs.Reader.{Place, Outcome, got, refused, Reader, give, ◌>>=◌, entry}
use Rattle.format.specs.Values.{only, number, position, find, new_name, latch, item_list, positions}
use Rattle.format.specs.Reading.{latches, rule, rules, book, errand, Reading, accepted, declined, at_end, closed, whole, read_book, read_errand}
use Rattle.format.proofs.Steps.{got_same, chain_got, entry_got}
use Rattle.format.proofs.Finding.{find_none, distinct_push}
use Rattle.format.proofs.Plain.{only_fine, number_fine, position_fine, new_name_fine, latch_fine, positions_fine}
use Rattle.format.proofs.Items.{item_list_fine}

abbrev Named : Bytes → Type 0
Named x = well_named x ≡ true

pub latches_got : (n : ℕ) (names : List Bytes) (p : Place) (all : List Bytes) (q : Place) → latches n names p ≡ got all q
    → (new : List Bytes) × ((all ≡ names ++ new) × ((length new ≡ n) × ((p.rest ≡ latch_lines new q.rest)
    × ((Distinct names → Distinct all) × (AllByRecursion Named names → AllByRecursion Named all)))))
latches_got zero names p all q h =
    let s = got_same names all p q h in (
      [],
      (
        sym s.0 ∙ sym (append-nil names),
        (
          refl,
          (
            ap (λ (x : Place). x.rest) s.1,
            (λ d. subst (λ (z : List Bytes). Distinct z) s.0 d, λ a. subst (λ (z : List Bytes). AllByRecursion Named z) s.0 a),
          ),
        ),
      ),
    )
latches_got (suc n) names p all q h =
    let c = chain_got (entry (codes "latch=") (new_name names) p) (λ x. latches n (names ++ (x ∷ []))) all q h in
    let x : Bytes = c.0 in
    let r : Place = c.1.0 in
    let e = entry_got (codes "latch=") (new_name names) p x r c.1.1.0 in
    let w = new_name_fine names e.0 x e.1.1 in
    let t = latches_got n (names ++ (x ∷ [])) r all q c.1.1.1 in
    let fresh : find x names ≡ none = ap (λ (z : Bytes). find z names) (sym w.0) ∙ w.1.1 in
    let good : well_named x ≡ true = ap well_named (sym w.0) ∙ w.1.0 in (
      x ∷ t.0,
      (
        t.1.0 ∙ append_assoc names (x ∷ []) t.0,
        (
          ap suc t.1.1.0,
          (
            e.1.0 ∙ ap (λ (v : Bytes). line (codes "latch=") v r.rest) w.0 ∙ ap (line (codes "latch=") x) t.1.1.1.0,
            (
              λ d. t.1.1.1.1.0 (distinct_push names x d (find_none x names fresh)),
              λ a. t.1.1.1.1.1 (All-push Named names x a good),
            ),
          ),
        ),
      ),
    )

pub rule_got : (names : List Bytes) (p : Place) (r : Rule) (q : Place) → rule names p ≡ got r q
    → (p.rest ≡ rule_lines names (r ∷ []) q.rest) × Own (length names) r
rule_got names p r q h =
    let c = chain_got (entry (codes "move=") (latch names) p)
    (λ u. entry (codes "to=") position >>= (λ b. entry (codes "when=") (item_list names) >>= (λ w. give (record { latch = u; to = b; when = w })))) r q h in
    let d = chain_got (entry (codes "to=") position c.1.0) (λ b. entry (codes "when=") (item_list names) >>= (λ w. give (record { latch = c.0; to = b; when = w }))) r q c.1.1.1 in
    let e = chain_got (entry (codes "when=") (item_list names) d.1.0) (λ w. give (record { latch = c.0; to = d.0; when = w })) r q d.1.1.1 in
    let s = got_same (record { latch = c.0; to = d.0; when = e.0 }) r e.1.0 q e.1.1.1 in
    let a = entry_got (codes "move=") (latch names) p c.0 c.1.0 c.1.1.0 in
    let b = entry_got (codes "to=") position c.1.0 d.0 d.1.0 d.1.1.0 in
    let w = entry_got (codes "when=") (item_list names) d.1.0 e.0 e.1.0 e.1.1.0 in
    let la = latch_fine names a.0 c.0 a.1.1 in
    let lw = item_list_fine names w.0 e.0 w.1.1 in (
      a.1.0 ∙ ap (λ (v : Bytes). line (codes "move=") v c.1.0.rest) la.1
          ∙ ap (line (codes "move=") (get_or names c.0 []))
          (b.1.0 ∙ ap (λ (v : Bytes). line (codes "to=") v d.1.0.rest) (position_fine b.0 d.0 b.1.1)
          ∙ ap (line (codes "to=") (digit d.0 ∷ [])) (w.1.0 ∙ ap (λ (v : Bytes). line (codes "when=") v e.1.0.rest) lw.0))
          ∙ ap (λ (z : Rule). rule_lines names (z ∷ []) e.1.0.rest) s.0 ∙ ap (λ (z : Place). rule_lines names (r ∷ []) z.rest) s.1,
      subst (λ (z : Rule). Own (length names) z) s.0 (la.0, lw.1),
    )

pub rules_got : (m : ℕ) (names : List Bytes) (done : List Rule) (p : Place) (all : List Rule) (q : Place) → rules m names done p ≡ got all q
    → (new : List Rule) × ((all ≡ done ++ new) × ((length new ≡ m) × ((p.rest ≡ rule_lines names new q.rest) × AllByRecursion (Own (length names)) new)))
rules_got zero names done p all q h =
    let s = got_same done all p q h in ([], (sym s.0 ∙ sym (append-nil done), (refl, (ap (λ (x : Place). x.rest) s.1, tt))))
rules_got (suc m) names done p all q h =
    let c = chain_got (rule names p) (λ r. rules m names (done ++ (r ∷ []))) all q h in
    let e = rule_got names p c.0 c.1.0 c.1.1.0 in
    let t = rules_got m names (done ++ (c.0 ∷ [])) c.1.0 all q c.1.1.1 in (
      c.0 ∷ t.0,
      (
        t.1.0 ∙ append_assoc done (c.0 ∷ []) t.0,
        (
          ap suc t.1.1.0,
          (e.0 ∙ ap (rule_lines names (c.0 ∷ [])) t.1.1.1.0, (e.1, t.1.1.1.1)),
        ),
      ),
    )

-- the parts of a book that was read
pub book_got : (p : Place) (b : Contents) (q : Place) → book p ≡ got b q → (p.rest ≡ book_lines b q.rest) × Well b
book_got p b q h =
    let c1 = chain_got (entry (codes "book=") (only (codes "1")) p) _ b q h in
    let p1 : Place = c1.1.0 in
    let c2 = chain_got (entry (codes "latches=") (number 1 32) p1) _ b q c1.1.1.1 in
    let n : ℕ = c2.0 in
    let p2 : Place = c2.1.0 in
    let c3 = chain_got (latches n [] p2) _ b q c2.1.1.1 in
    let names : List Bytes = c3.0 in
    let p3 : Place = c3.1.0 in
    let c4 = chain_got (entry (codes "moves=") (number 0 128) p3) _ b q c3.1.1.1 in
    let m : ℕ = c4.0 in
    let p4 : Place = c4.1.0 in
    let c5 = chain_got (rules m names [] p4) (λ moves. give (record { names = names; rules = moves })) b q c4.1.1.1 in
    let s = got_same (record { names = names; rules = c5.0 }) b c5.1.0 q c5.1.1.1 in
    let e1 = entry_got (codes "book=") (only (codes "1")) p c1.0 p1 c1.1.1.0 in
    let e2 = entry_got (codes "latches=") (number 1 32) p1 n p2 c2.1.1.0 in
    let f2 = number_fine 1 32 e2.0 n e2.1.1 in
    let e3 = latches_got n [] p2 names p3 c3.1.1.0 in
    let e4 = entry_got (codes "moves=") (number 0 128) p3 m p4 c4.1.1.0 in
    let f4 = number_fine 0 128 e4.0 m e4.1.1 in
    let e5 = rules_got m names [] p4 c5.0 c5.1.0 c5.1.1.0 in
    let ln : length names ≡ n = ap length e3.1.0 ∙ e3.1.1.0 in
    let lm : length c5.0 ≡ m = ap length e5.1.0 ∙ e5.1.1.0 in
    let well : Well (record { names = names; rules = c5.0 }) = record {
      some_latch = subst (λ (k : ℕ). 1 ≤ k) (sym ln) f2.0;
      few = subst (λ (k : ℕ). k ≤ 32) (sym ln) f2.1.0;
      named = e3.1.1.1.1.1 tt;
      distinct = e3.1.1.1.1.0 tt;
      room = subst (λ (k : ℕ). k ≤ 128) (sym lm) f4.1.0;
      own = subst (λ (z : List Rule). AllByRecursion (Own (length names)) z) (sym e5.1.0) e5.1.1.1.1;
    } in (
      e1.1.0 ∙ ap (λ (v : Bytes). line (codes "book=") v p1.rest) (sym (only_fine (codes "1") e1.0 c1.0 e1.1.1))
          ∙ ap (line (codes "book=") (codes "1"))
          (e2.1.0 ∙ ap (λ (v : Bytes). line (codes "latches=") v p2.rest) (f2.1.1 ∙ ap decimal (sym ln))
          ∙ ap (line (codes "latches=") (decimal (length names)))
          (e3.1.1.1.0 ∙ ap (λ (z : List Bytes). latch_lines z p3.rest) (sym e3.1.0)
          ∙ ap (latch_lines names)
          (e4.1.0 ∙ ap (λ (v : Bytes). line (codes "moves=") v p4.rest) (f4.1.1 ∙ ap decimal (sym lm))
          ∙ ap (line (codes "moves=") (decimal (length c5.0)))
          (e5.1.1.1.0 ∙ ap (λ (z : List Rule). rule_lines names z c5.1.0.rest) (sym e5.1.0)))))
          ∙ ap (λ (z : Contents). book_lines z c5.1.0.rest) s.0 ∙ ap (λ (z : Place). book_lines b z.rest) s.1,
      subst (λ (z : Contents). Well z) s.0 well,
    )

pub errand_got : (p : Place) (b : ErrandContents) (q : Place) → errand p ≡ got b q
    → (p.rest ≡ errand_lines b q.rest) × WellErrand b
errand_got p b q h =
    let c1 = chain_got (book p) _ b q h in
    let pg : Contents = c1.0 in
    let p1 : Place = c1.1.0 in
    let c2 = chain_got (entry (codes "start=") (positions (length pg.names) []) p1) _ b q c1.1.1.1 in
    let p2 : Place = c2.1.0 in
    let c3 = chain_got (entry (codes "want=") (item_list pg.names) p2) (λ w. give (record { contents = pg; start = c2.0; want = w })) b q c2.1.1.1 in
    let s = got_same (record { contents = pg; start = c2.0; want = c3.0 }) b c3.1.0 q c3.1.1.1 in
    let e1 = book_got p pg p1 c1.1.1.0 in
    let e2 = entry_got (codes "start=") (positions (length pg.names) []) p1 c2.0 p2 c2.1.1.0 in
    let f2 = positions_fine (length pg.names) [] e2.0 c2.0 e2.1.1 in
    let e3 = entry_got (codes "want=") (item_list pg.names) p2 c3.0 c3.1.0 c3.1.1.0 in
    let f3 = item_list_fine pg.names e3.0 c3.0 e3.1.1 in
    let well : WellErrand (record { contents = pg; start = c2.0; want = c3.0 }) = record { book = e1.1; start = f2.1.1.1; want = f3.1 } in (
      e1.0 ∙ ap (book_lines pg)
          (e2.1.0 ∙ ap (λ (v : Bytes). line (codes "start=") v p2.rest) (f2.1.1.0 ∙ ap (map digit) (sym f2.1.0))
          ∙ ap (line (codes "start=") (map digit c2.0)) (e3.1.0 ∙ ap (λ (v : Bytes). line (codes "want=") v c3.1.0.rest) f3.0))
          ∙ ap (λ (z : ErrandContents). errand_lines z c3.1.0.rest) s.0
          ∙ ap (λ (z : Place). errand_lines b z.rest) s.1,
      subst (λ (z : ErrandContents). WellErrand z) s.0 well,
    )

pub declined≢accepted : {A : Type 0} {k : Fault} {n : ℕ} {a : A} → declined k n ≡ accepted a → ⊥
declined≢accepted {A} h = let is : Reading A → Bool = elim [ accepted a ↦ true | declined k n ↦ false ] in both_ways false refl (ap is h)

end_accepted : {A : Type 0} (a b : A) (n : ℕ) (r : Bytes) → at_end a n r ≡ accepted b → (r ≡ []) × (a ≡ b)
end_accepted {A} a b n [] h = let of : Reading A → A = elim [ accepted x ↦ x | declined k n ↦ a ] in (refl, ap of h)
end_accepted a b n (x ∷ xs) h = absurd (declined≢accepted h)

-- a whole text that is accepted is read to its end
pub whole_accepted : {A : Type 0} (m : Reader A) (t : Bytes) (a : A) → whole m t ≡ accepted a
    → (q : Place) × ((m (record { number = 1; rest = t }) ≡ got a q) × (q.rest ≡ []))
whole_accepted {A} m t a h = go (ltb 65536 (length t)) (m (record { number = 1; rest = t })) refl h
  where
    go : (s : Bool) (o : Outcome A) → m (record { number = 1; rest = t }) ≡ o → cond s (declined Length 1) (closed o) ≡ accepted a
        → (q : Place) × ((m (record { number = 1; rest = t }) ≡ got a q) × (q.rest ≡ []))
    go true o e h = absurd (declined≢accepted h)
    go false (got b q) e h = let s = end_accepted b a q.number q.rest h in (q, (e ∙ ap (λ (z : A). got z q) s.1, s.0))
    go false (refused k n) e h = absurd (declined≢accepted h)

pub book_sound : (t : Bytes) (p : Contents) → read_book t ≡ accepted p → Well p × (t ≡ book_text p)
book_sound t p h =
    let w = whole_accepted book t p h in
    let b = book_got (record { number = 1; rest = t }) p w.0 w.1.0 in
    (b.1, b.0 ∙ ap (book_lines p) w.1.1)

pub errand_sound : (t : Bytes) (e : ErrandContents) → read_errand t ≡ accepted e → WellErrand e × (t ≡ errand_text e)
errand_sound t e h =
    let w = whole_accepted errand t e h in
    let b = errand_got (record { number = 1; rest = t }) e w.0 w.1.0 in
    (b.1, b.0 ∙ ap (errand_lines e) w.1.1)
