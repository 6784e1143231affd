-- Where a state stands in the pieces of what was gone through.
use Rattle.std.proofs.Common.{◌≡◌, ℕ, suc, ◌==◌, ◌&&◌, Bool, true, false, cond, eqb, List, [], ◌∷◌, ◌++◌, length, map, Some, refl, ap, subst, sym, ◌∙◌, arith}
use Rattle.std.specs.List.{slice_split}
use Rattle.std.proofs.lemmas.List.{length-append, map-append}
use Rattle.std.proofs.lemmas.Bool.{not-true}
use Rattle.ps_packed.specs.Packed.{is_nil, is_nameless, team_texts_of, end_of, sets_done, field_texts_at_end, field_at_end, word_at_end}
use Rattle.ps_packed.specs.Scan.{State, start, step, nameless_at, bar_named}
use Rattle.ps_packed.proofs.Runs.{by_bar, by_bracket, by_inner, stepped}
use Rattle.ps_packed.proofs.Splits.{grown, split_snoc, grown_end}

-- what the fields that are done tell of the names
abbrev pub NamesAre : List (List ℕ) → Bool → Type 0
NamesAre [] bare = Unit {0}
NamesAre (n ∷ []) bare = bare ≡ is_nil n
NamesAre (n ∷ s ∷ ws) bare = (is_nil n && is_nil s) ≡ false

names_next : (ws : List (List ℕ)) (bare : Bool) (k : ℕ) (w : List ℕ) → NamesAre ws bare → length ws ≡ k → bar_named bare k w ≡ true → NamesAre (ws ++ w ∷ []) (nameless_at bare k w)
names_next [] bare k w h e b = subst (λ (j : ℕ). nameless_at bare j w ≡ is_nil w) e refl
names_next (n ∷ []) bare k w h e b =
    let at_one : bar_named bare 1 w ≡ true = subst (λ (j : ℕ). bar_named bare j w ≡ true) (sym e) b in
    subst (λ (x : Bool). (x && is_nil w) ≡ false) h (not-true (bare && is_nil w) at_one)
names_next (n ∷ s ∷ ws) bare k w h e b = h

names_reported : (ws : List (List ℕ)) (bare : Bool) (k : ℕ) (w : List ℕ) → NamesAre ws bare → length ws ≡ k → is_nameless (ws ++ w ∷ []) ≡ nameless_at bare k w
names_reported [] bare k w h e = subst (λ (j : ℕ). is_nil w ≡ nameless_at bare j w) e refl
names_reported (n ∷ []) bare k w h e = subst (λ (j : ℕ). (is_nil n && is_nil w) ≡ nameless_at bare j w) e (ap (λ (x : Bool). x && is_nil w) (sym h))
names_reported (n ∷ s ∷ []) bare k w h e = subst (λ (j : ℕ). (is_nil n && is_nil s) ≡ nameless_at bare j w) e h
names_reported (n ∷ s ∷ x ∷ ws) bare k w h e = subst (λ (j : ℕ). (is_nil n && is_nil s) ≡ nameless_at bare j w) e h

-- where a state stands in the pieces of a front
pub record Placed (front : List ℕ) (s : State) : Type 0 where
  pub done : List (List ℕ)
  pub field_texts : List ℕ
  pub fields : List (List ℕ)
  pub team_texts_are : slice_split (λ c. c == 93) front ≡ done ++ field_texts ∷ []
  pub field_texts_are : slice_split (λ c. c == 124) field_texts ≡ fields ++ s.word ∷ []
  pub sets_are : length done ≡ s.sets
  pub field_is : length fields ≡ s.field
  pub names_are : NamesAre fields s.bare

pub start_placed : Placed [] start
start_placed = record { done = []; field_texts = []; fields = []; team_texts_are = refl; field_texts_are = refl; sets_are = refl; field_is = refl; names_are = tt }

field_texts_next : (front : List ℕ) (s : State) (b : ℕ) (p : Placed front s) → eqb b 93 ≡ false → slice_split (λ c. c == 93) (front ++ b ∷ []) ≡ p.done ++ (p.field_texts ++ b ∷ []) ∷ []
field_texts_next front s b p e = split_snoc 93 b front ∙ ap (grown (eqb b 93) b) p.team_texts_are ∙ grown_end (eqb b 93) b p.done p.field_texts ∙ ap (λ t. cond t ((p.done ++ p.field_texts ∷ []) ++ [] ∷ []) (p.done ++ (p.field_texts ++ b ∷ []) ∷ [])) e

field_next : (front : List ℕ) (s : State) (b : ℕ) (p : Placed front s) (t : Bool) → eqb b 124 ≡ t → slice_split (λ c. c == 124) (p.field_texts ++ b ∷ []) ≡ cond t ((p.fields ++ s.word ∷ []) ++ [] ∷ []) (p.fields ++ (s.word ++ b ∷ []) ∷ [])
field_next front s b p t e = split_snoc 124 b p.field_texts ∙ ap (grown (eqb b 124) b) p.field_texts_are ∙ grown_end (eqb b 124) b p.fields s.word ∙ ap (λ t. cond t ((p.fields ++ s.word ∷ []) ++ [] ∷ []) (p.fields ++ (s.word ++ b ∷ []) ∷ [])) e

pub placed_next : (front : List ℕ) (s : State) (b : ℕ) (u : State) → Placed front s → step s b ≡ Some u → Placed (front ++ b ∷ []) u
placed_next front s b u p e =
    elim (stepped s b u e) [
      | by_bar is lt fit name now ↦ rw now (record {
        done = p.done;
        field_texts = p.field_texts ++ b ∷ [];
        fields = p.fields ++ s.word ∷ [];
        team_texts_are = field_texts_next front s b p (ap (λ x. eqb x 93) is);
        field_texts_are = field_next front s b p true (ap (λ x. eqb x 124) is);
        sets_are = p.sets_are;
        field_is = omega (arith, p.field_is, length-append p.fields (s.word ∷ []));
        names_are = names_next p.fields s.bare s.field s.word p.names_are p.field_is name;
      })
      | by_bracket is e' fit lt now ↦ rw now (record {
        done = p.done ++ p.field_texts ∷ [];
        field_texts = [];
        fields = [];
        team_texts_are = split_snoc 93 b front ∙ ap (grown (eqb b 93) b) p.team_texts_are ∙ grown_end (eqb b 93) b p.done p.field_texts ∙ ap (λ x. cond (eqb x 93) ((p.done ++ p.field_texts ∷ []) ++ [] ∷ []) (p.done ++ (p.field_texts ++ b ∷ []) ∷ [])) is;
        field_texts_are = refl;
        sets_are = omega (arith, p.sets_are, length-append p.done (p.field_texts ∷ []));
        field_is = refl;
        names_are = tt;
      })
      | by_inner x y ok now ↦ rw now (record {
        done = p.done;
        field_texts = p.field_texts ++ b ∷ [];
        fields = p.fields;
        team_texts_are = field_texts_next front s b p y;
        field_texts_are = field_next front s b p false x;
        sets_are = p.sets_are;
        field_is = p.field_is;
        names_are = p.names_are;
      })
    ]

pub end_snoc : {A : Type 0} (d : A) (xs : List A) (y : A) → end_of d (xs ++ y ∷ []) ≡ y
end_snoc d [] y = refl
end_snoc d (x ∷ xs) y = end_snoc x xs y

team_texts_at : (front : List ℕ) (s : State) (p : Placed front s) → team_texts_of front ≡ map (slice_split (λ c. c == 124)) p.done ++ (p.fields ++ s.word ∷ []) ∷ []
team_texts_at front s p = ap (map (slice_split (λ c. c == 124))) p.team_texts_are ∙ map-append (slice_split (λ c. c == 124)) p.done (p.field_texts ∷ []) ∙ ap (λ (u : List (List ℕ)). map (slice_split (λ c. c == 124)) p.done ++ u ∷ []) p.field_texts_are

length_team_texts : (ps : List (List ℕ)) → length (map (slice_split (λ c. c == 124)) ps) ≡ length ps
length_team_texts [] = refl
length_team_texts (p ∷ ps) = ap suc (length_team_texts ps)

field_texts_end : (front : List ℕ) (s : State) (p : Placed front s) → field_texts_at_end front ≡ p.fields ++ s.word ∷ []
field_texts_end front s p = ap (end_of []) (team_texts_at front s p) ∙ end_snoc [] (map (slice_split (λ c. c == 124)) p.done) (p.fields ++ s.word ∷ [])

-- the state told by splitting
pub record IsReportedBy (front : List ℕ) (s : State) : Type 0 where
  pub sets : sets_done front ≡ s.sets
  pub field : field_at_end front ≡ s.field
  pub word : word_at_end front ≡ s.word
  pub names : is_nameless (field_texts_at_end front) ≡ nameless_at s.bare s.field s.word

pub reported : (front : List ℕ) (s : State) → Placed front s → IsReportedBy front s
reported front s p = record {
  sets = omega (arith, ap length (team_texts_at front s p), length-append (map (slice_split (λ c. c == 124)) p.done) ((p.fields ++ s.word ∷ []) ∷ []), length_team_texts p.done, p.sets_are);
  field = omega (arith, ap length (field_texts_end front s p), length-append p.fields (s.word ∷ []), p.field_is);
  word = ap (end_of []) (field_texts_end front s p) ∙ end_snoc [] p.fields s.word;
  names = ap is_nameless (field_texts_end front s p) ∙ names_reported p.fields s.bare s.field s.word p.names_are p.field_is;
}
