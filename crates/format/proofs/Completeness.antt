-- The text of a well-formed contents is read, and says that contents.
use Rattle.std.proofs.Common.{◌≡◌, ℕ, suc, ◌≤◌, true, ltb, List, [], ◌∷◌, ◌++◌, map, length, get_or, codes, sym, refl, ap, ◌∙◌, subst, arith}
use Rattle.std.specs.List.{AllByRecursion}
use Rattle.std.proofs.ByRecursion.{All-get_or}
use Rattle.std.proofs.lemmas.List.{append-nil, append_assoc}
use Rattle.std.proofs.lemmas.Bool.{le-ltb, cond-false}
use Rattle.format.specs.Bytes.{Bytes, decimal}
use Rattle.book.specs.Names.{well_named}
use Rattle.format.specs.Contents.{Rule, Contents, ErrandContents, Distinct, Own, Well, WellErrand}
use Rattle.format.specs.Written.{line, digit, list_text, latch_lines, rule_lines, book_lines, errand_lines}
use Rattle.format.specs.Reader.{got, Reader, Judged, fine, give, ◌>>=◌, entry}
use Rattle.format.specs.Values.{only, number, position, new_name, latch, found, item_list, positions}
use Rattle.format.specs.Reading.{latches, rule, rules, book, errand, accepted, closed, whole}
use Rattle.format.proofs.Cutting.{free}
use Rattle.format.proofs.Steps.{chain_from, entry_at}
use Rattle.format.proofs.Finding.{find_new, find_at, distinct_mid}
use Rattle.format.proofs.Plain.{free_decimal, number_at, position_at, free_name, named_parts, new_name_at, positions_at, free_digits}
use Rattle.format.proofs.Items.{free_list, item_list_at}
use Rattle.format.proofs.Tails.{from_latches, from_names, from_moves, from_rules, from_start, from_want}

-- the reader gets this value from a text that ends in r, and r is left
abbrev pub Gets : {A : Type 0} → Reader A → A → (Bytes → Bytes) → Type 0
Gets m a text = (n : ℕ) (r : Bytes) → (k : ℕ) × (m (record { number = n; rest = text r }) ≡ got a (record { number = k; rest = r }))

pub entry_gets : {A : Type 0} (key : Bytes) (judge : Bytes → Judged A) (v : Bytes) (a : A) → free 10 key ≡ true → free 10 v ≡ true → judge v ≡ fine a
    → Gets (entry key judge) a (line key v)
entry_gets key judge v a fk fv e n r = (suc n, entry_at key judge v r n a fk fv e)

-- one after another
pub then_gets : {A B : Type 0} (m : Reader A) (a : A) (text : Bytes → Bytes) (f : A → Reader B) (b : B) (more : Bytes → Bytes)
    → Gets m a text → Gets (f a) b more → Gets (m >>= f) b (λ r. text (more r))
then_gets m a text f b more g h n r =
    let s = g n (more r) in
    let t = h s.0 r in
    (t.0, chain_from (m (record { number = n; rest = text (more r) })) f a (record { number = s.0; rest = more r }) s.1 ∙ t.1)

pub give_gets : {A : Type 0} (a : A) → Gets (give a) a (λ r. r)
give_gets a n r = (n, refl)

-- the reader gets another value that is the same
pub same_gets : {A : Type 0} (m : Reader A) (a b : A) (text : Bytes → Bytes) → a ≡ b → Gets m a text → Gets m b text
same_gets m a b text e g n r = ((g n r).0, (g n r).1 ∙ ap (λ (z : _). got z (record { number = (g n r).0; rest = r })) e)

free_named : (v : Bytes) → well_named v ≡ true → free 10 v ≡ true
free_named v h = free_name 10 v (omega arith) (named_parts v h).1.1

pub latches_gets : (names new : List Bytes) → AllByRecursion (λ x. well_named x ≡ true) new → Distinct (names ++ new)
    → Gets (latches (length new) names) (names ++ new) (latch_lines new)
latches_gets names [] a d = same_gets (give names) names (names ++ []) (λ r. r) (sym (append-nil names)) (give_gets names)
latches_gets names (x ∷ new) a d =
    let e : (names ++ (x ∷ [])) ++ new ≡ names ++ (x ∷ new) = append_assoc names (x ∷ []) new in
    let t = latches_gets (names ++ (x ∷ [])) new a.1 (subst (λ (z : List Bytes). Distinct z) (sym e) d) in
    then_gets (entry (codes "latch=") (new_name names)) x (line (codes "latch=") x) (λ y. latches (length new) (names ++ (y ∷ []))) (names ++ (x ∷ new)) (latch_lines new)
    (entry_gets (codes "latch=") (new_name names) x x refl (free_named x a.0) (new_name_at names x a.0 (find_new x names (distinct_mid names x new d))))
    (same_gets (latches (length new) (names ++ (x ∷ []))) ((names ++ (x ∷ [])) ++ new) (names ++ (x ∷ new)) (latch_lines new) e t)

module _ (names : List Bytes) (distinct : Distinct names) (named : AllByRecursion (λ x. well_named x ≡ true) names) where
  pub rule_gets : (r : Rule) → Own (length names) r → Gets (rule names) r (rule_lines names (r ∷ []))
  rule_gets r o =
      then_gets (entry (codes "move=") (latch names)) r.latch (line (codes "move=") (get_or names r.latch []))
      (λ u. entry (codes "to=") position >>= (λ b. entry (codes "when=") (item_list names) >>= (λ w. give (record { latch = u; to = b; when = w })))) r
      (λ z. line (codes "to=") (digit r.to ∷ []) (line (codes "when=") (list_text names r.when) z))
      (entry_gets (codes "move=") (latch names) (get_or names r.latch []) r.latch refl
      (free_named (get_or names r.latch []) (All-get_or (λ x. well_named x ≡ true) names r.latch [] o.0 named))
      (ap found (find_at names r.latch distinct o.0)))
      (then_gets (entry (codes "to=") position) r.to (line (codes "to=") (digit r.to ∷ []))
      (λ b. entry (codes "when=") (item_list names) >>= (λ w. give (record { latch = r.latch; to = b; when = w }))) r
      (line (codes "when=") (list_text names r.when))
      (entry_gets (codes "to=") position (digit r.to ∷ []) r.to refl (free_digits (r.to ∷ [])) (position_at r.to))
      (then_gets (entry (codes "when=") (item_list names)) r.when (line (codes "when=") (list_text names r.when))
      (λ w. give (record { latch = r.latch; to = r.to; when = w })) r (λ z. z)
      (entry_gets (codes "when=") (item_list names) (list_text names r.when) r.when refl (free_list names distinct named r.when o.1)
      (item_list_at names distinct named r.when o.1))
      (give_gets r)))

  pub rules_gets : (done new : List Rule) → AllByRecursion (Own (length names)) new → Gets (rules (length new) names done) (done ++ new) (rule_lines names new)
  rules_gets done [] a = same_gets (give done) done (done ++ []) (λ r. r) (sym (append-nil done)) (give_gets done)
  rules_gets done (x ∷ new) a =
      then_gets (rule names) x (rule_lines names (x ∷ [])) (λ y. rules (length new) names (done ++ (y ∷ []))) (done ++ (x ∷ new)) (rule_lines names new)
      (rule_gets x a.0)
      (same_gets (rules (length new) names (done ++ (x ∷ []))) ((done ++ (x ∷ [])) ++ new) (done ++ (x ∷ new)) (rule_lines names new)
      (append_assoc done (x ∷ []) new) (rules_gets (done ++ (x ∷ [])) new a.1))

pub book_gets : (p : Contents) → Well p → Gets book p (book_lines p)
book_gets p w =
    let few = w.few in
    let room = w.room in
    then_gets (entry (codes "book=") (only (codes "1"))) tt (line (codes "book=") (codes "1")) from_latches p
    (λ z. line (codes "latches=") (decimal (length p.names)) (latch_lines p.names (line (codes "moves=") (decimal (length p.rules)) (rule_lines p.names p.rules z))))
    (entry_gets (codes "book=") (only (codes "1")) (codes "1") tt refl refl refl)
    (then_gets (entry (codes "latches=") (number 1 32)) (length p.names) (line (codes "latches=") (decimal (length p.names))) from_names p
    (λ z. latch_lines p.names (line (codes "moves=") (decimal (length p.rules)) (rule_lines p.names p.rules z)))
    (entry_gets (codes "latches=") (number 1 32) (decimal (length p.names)) (length p.names) refl (free_decimal (length p.names))
    (number_at 1 32 (length p.names) w.some_latch w.few (omega arith)))
    (then_gets (latches (length p.names) []) p.names (latch_lines p.names) from_moves p
    (λ z. line (codes "moves=") (decimal (length p.rules)) (rule_lines p.names p.rules z)) (latches_gets [] p.names w.named w.distinct)
    (then_gets (entry (codes "moves=") (number 0 128)) (length p.rules) (line (codes "moves=") (decimal (length p.rules))) (from_rules p.names) p (rule_lines p.names p.rules)
    (entry_gets (codes "moves=") (number 0 128) (decimal (length p.rules)) (length p.rules) refl (free_decimal (length p.rules))
    (number_at 0 128 (length p.rules) (omega arith) w.room (omega arith)))
    (then_gets (rules (length p.rules) p.names []) p.rules (rule_lines p.names p.rules) (λ moves. give (record { names = p.names; rules = moves })) p (λ z. z)
    (rules_gets p.names w.distinct w.named [] p.rules w.own) (give_gets p)))))

pub errand_gets : (e : ErrandContents) → WellErrand e
    → Gets errand e (errand_lines e)
errand_gets e w =
    let names : List Bytes = e.contents.names in
    then_gets book e.contents (book_lines e.contents) from_start e (λ z. line (codes "start=") (map digit e.start) (line (codes "want=") (list_text names e.want) z))
    (book_gets e.contents w.book)
    (then_gets (entry (codes "start=") (positions (length names) [])) e.start (line (codes "start=") (map digit e.start)) (from_want e.contents) e (line (codes "want=") (list_text names e.want))
    (entry_gets (codes "start=") (positions (length names) []) (map digit e.start) e.start refl (free_digits e.start) (positions_at (length names) [] e.start w.start))
    (then_gets (entry (codes "want=") (item_list names)) e.want (line (codes "want=") (list_text names e.want))
    (λ x. give (record { contents = e.contents; start = e.start; want = x })) e (λ z. z)
    (entry_gets (codes "want=") (item_list names) (list_text names e.want) e.want refl (free_list names w.book.distinct w.book.named e.want w.want)
    (item_list_at names w.book.distinct w.book.named e.want w.want))
    (give_gets e)))

-- a short text that is read to its end is accepted
pub whole_gets : {A : Type 0} (m : Reader A) (a : A) (text : Bytes → Bytes) → Gets m a text → length (text []) ≤ 65536 → whole m (text []) ≡ accepted a
whole_gets m a text g l =
    cond-false (ltb 65536 (length (text []))) _ _ (le-ltb 65536 (length (text [])) l) ∙ ap closed (g 1 []).1
