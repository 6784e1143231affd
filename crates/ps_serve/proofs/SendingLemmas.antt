-- What was sent, and what more texts make of it.
use Rattle.std.proofs.Common.{◌≡◌, ℕ, ◌+◌, ◌<◌, ◌≤◌, true, false, eq-eqb, ne_eqb, ◌≢◌, List, [], ◌∷◌, ◌++◌, map, length, take, get_or, Option, Some, None, refl, ap, sym, ◌∙◌, arith, append_assoc}
use Rattle.std.specs.Prelude.{All, nat_le}
use Rattle.std.proofs.lemmas.Bool.Decides.{nat_tests}
use Rattle.std.proofs.lemmas.List.{append-nil, get_or-map, length-map, map-append, take_more}
use Rattle.std.proofs.lemmas.List.Elements.{All-head, All-tail, All-nil, All-cons, filter_map-append}
use mathlib.Core.List.{IsPrefix}
use Rattle.ps_base.specs.declared.msg.Msg.{Msg}
use Rattle.ps_outside.specs.Links.{Talk, with_text, after_text}
use Rattle.ps_outside.specs.declared.link.SentText.{SentText}
use Rattle.ps_base.specs.Messages.{text_of, texts_of}
use Rattle.server_pass.specs.Tellings.{lines_of}
use Rattle.ps_serve.specs.Sendings.{Sending, is_place, text_from, texts_from, text_before, texts_before, message_text, message_texts}
use Rattle.ps_serve.specs.Steps.{after_sendings}
use Rattle.ps_serve.specs.Tellings.{after_texts}

-- texts that were sent from one place, after so many answers
abbrev pub sending : Option ℕ → ℕ → List ℕ → Sending
sending place after text = record { place = place; text = text; after = after }

abbrev pub sendings : Option ℕ → ℕ → List (List ℕ) → List Sending
sendings place after texts = map (sending place after) texts

-- ---- the texts of a place

pub is_place_self : (place : Option ℕ) → is_place place place ≡ true
is_place_self None = refl
is_place_self (Some n) = eq-eqb n n refl

pub is_place_other : (one two : ℕ) → one ≢ two → is_place (Some one) (Some two) ≡ false
is_place_other one two ne = ne_eqb one two ne

pub from_self : (place : Option ℕ) (n : ℕ) (texts : List (List ℕ)) → texts_from place (sendings place n texts) ≡ texts
from_self place n [] = refl
from_self place n (text ∷ texts) = rw (is_place_self place) (ap (λ (ts : List (List ℕ)). text ∷ ts) (from_self place n texts))

pub from_other : (place other : Option ℕ) (n : ℕ) (texts : List (List ℕ)) → is_place place other ≡ false → texts_from place (sendings other n texts) ≡ []
from_other place other n [] e = refl
from_other place other n (text ∷ texts) e = rw e (from_other place other n texts e)

-- of a room's texts none is from the hall
pub from_room : (number n : ℕ) (texts : List (List ℕ)) → texts_from None (sendings (Some number) n texts) ≡ []
from_room number n texts = from_other None (Some number) n texts refl

pub texts_from-append : (place : Option ℕ) (xs ys : List Sending) → texts_from place (xs ++ ys) ≡ texts_from place xs ++ texts_from place ys
texts_from-append place xs ys = filter_map-append (text_from place) xs ys

-- other places' texts leave those of a place
pub from_still : (place : Option ℕ) (xs ys : List Sending) → texts_from place ys ≡ [] → texts_from place (xs ++ ys) ≡ texts_from place xs
from_still place xs ys e = texts_from-append place xs ys ∙ ap (λ (ts : List (List ℕ)). texts_from place xs ++ ts) e ∙ append-nil (texts_from place xs)

pub before_more : (place : Option ℕ) (n : ℕ) (xs ys : List Sending) → IsPrefix (texts_before place n xs) (texts_before place n (xs ++ ys))
before_more place n xs ys = (texts_before place n ys, sym (filter_map-append (text_before place n) xs ys))

-- where all was sent by then, the texts before are all texts
pub before_all : (place : Option ℕ) (n : ℕ) (ss : List Sending) → All (λ (s : Sending). s.after ≤ n) ss → texts_before place n ss ≡ texts_from place ss
before_all place n [] all = refl
before_all place n (s ∷ ss) all =
    let le : s.after ≤ n = All-head (λ (s : Sending). s.after ≤ n) s ss all in
    let test : nat_le s.after n ≡ true = grind (arith, nat_tests) in
    rw (test, before_all place n ss (All-tail (λ (s : Sending). s.after ≤ n) s ss all)) refl

pub all_sent_at : (place : Option ℕ) (n : ℕ) (texts : List (List ℕ)) → All (λ (s : Sending). s.after ≡ n) (sendings place n texts)
all_sent_at place n [] = All-nil (λ (s : Sending). s.after ≡ n)
all_sent_at place n (text ∷ texts) = All-cons (λ (s : Sending). s.after ≡ n) (sending place n text) (sendings place n texts) refl (all_sent_at place n texts)

-- ---- messages

pub texts_are : (room : Option (List ℕ)) (msgs : List Msg) → texts_of room msgs ≡ message_texts room (lines_of msgs)
texts_are room [] = refl
texts_are room (m ∷ ms) = ap (λ (ts : List (List ℕ)). message_text room m.lines ∷ ts) (texts_are room ms)

pub texts_of-append : (room : Option (List ℕ)) (xs ys : List Msg) → texts_of room (xs ++ ys) ≡ texts_of room xs ++ texts_of room ys
texts_of-append room [] ys = refl
texts_of-append room (m ∷ ms) ys = ap (λ (ts : List (List ℕ)). message_text room m.lines ∷ ts) (texts_of-append room ms ys)

pub message_texts-append : (room : Option (List ℕ)) (xs ys : List (List (List ℕ))) → message_texts room (xs ++ ys) ≡ message_texts room xs ++ message_texts room ys
message_texts-append room xs ys = map-append _ xs ys

-- ---- the link

abbrev kept_sent : Talk → Sending → SentText
kept_sent talk s = record { text = s.text; after = talk.answers }

abbrev with_sent : Talk → List SentText → Option Talk
with_sent talk sent = Some (record talk { sent = sent })

pub sendings_more : (xs ys : List Sending) (told : Option Talk) → after_sendings ys (after_sendings xs told) ≡ after_sendings (xs ++ ys) told
sendings_more xs ys None = refl
sendings_more xs ys (Some talk) = ap (with_sent talk) (append_assoc talk.sent (map (kept_sent talk) xs) (map (kept_sent talk) ys) ∙ ap (λ (ts : List SentText). talk.sent ++ ts) (sym (map-append (kept_sent talk) xs ys)))

pub no_sendings : (told : Option Talk) → told ≡ after_sendings [] told
no_sendings None = refl
no_sendings (Some talk) = ap (with_sent talk) (sym (append-nil talk.sent))

none_after : (texts : List (List ℕ)) → after_texts texts None ≡ None
none_after [] = refl
none_after (text ∷ texts) = none_after texts

some_after : (place : Option ℕ) (n : ℕ) (texts : List (List ℕ)) (talk : Talk) → after_texts texts (Some talk) ≡ after_sendings (sendings place n texts) (Some talk)
some_after place n [] talk = no_sendings (Some talk)
some_after place n (text ∷ texts) talk =
    some_after place n texts (with_text text talk)
    ∙ ap (with_sent talk) (append_assoc talk.sent (record { text = text; after = talk.answers } ∷ []) (map (kept_sent talk) (sendings place n texts)))

pub texts_after : (place : Option ℕ) (n : ℕ) (texts : List (List ℕ)) (told : Option Talk) → after_texts texts told ≡ after_sendings (sendings place n texts) told
texts_after place n texts None = none_after texts
texts_after place n texts (Some talk) = some_after place n texts talk

-- ---- one text after the other

pub after_texts-append : (xs ys : List (List ℕ)) (told : Option Talk) → after_texts (xs ++ ys) told ≡ after_texts ys (after_texts xs told)
after_texts-append [] ys told = refl
after_texts-append (x ∷ xs) ys told = after_texts-append xs ys (after_text x told)

pub one_text_more : (texts : List (List ℕ)) (i : ℕ) (d : List ℕ) (told : Option Talk) → i < length texts → after_texts (take (i + 1) texts) told ≡ after_text (get_or texts i d) (after_texts (take i texts) told)
one_text_more texts i d told lt = ap (λ (ts : List (List ℕ)). after_texts ts told) (take_more texts i d lt) ∙ after_texts-append (take i texts) (get_or texts i d ∷ []) told

pub one_message_more : (room : Option (List ℕ)) (msgs : List Msg) (i : ℕ) (d : Msg) (told : Option Talk) → i < length msgs → after_texts (take (i + 1) (texts_of room msgs)) told ≡ after_text (text_of room (get_or msgs i d)) (after_texts (take i (texts_of room msgs)) told)
one_message_more room msgs i d told lt =
    one_text_more (texts_of room msgs) i (text_of room d) told (omega (arith, length-map msgs (text_of room), lt))
    ∙ ap (λ (text : List ℕ). after_text text (after_texts (take i (texts_of room msgs)) told)) (get_or-map (text_of room) msgs i d (text_of room d) lt)
