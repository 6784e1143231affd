-- What is given to who looks is its view.
use Rattle.std.proofs.Common.{◌≡◌, ℕ, suc, ◌-◌, List, [], ◌∷◌, ◌++◌, length, take, drop, refl, sym, ap, ◌∙◌, append_assoc, arith}
use Rattle.std.proofs.lemmas.List.{append-nil, length-append, take_at}
use Rattle.std.proofs.Math.Seq.{drop-append_seam}
use Rattle.ps_hall.specs.declared.cursor.Cursor.{Cursor}
use Rattle.ps_hall.specs.declared.entry.HallEntry.{HallEntry}
use Rattle.ps_hall.specs.declared.notice.Notice.{Notice}
use Rattle.ps_hall.specs.Records.{Record}
use Rattle.ps_hall.specs.Halls.{after, notices, message, view, run_record, run_seen, seen_after, seen_opened, Seen, pulled, pulled_past, cursor_past, before_last, PullsView}
use Rattle.ps_base.specs.Messages.{sent}

abbrev logs : Record → List HallEntry → List (List Notice)
logs h [] = []
logs h (e ∷ es) = notices h e ∷ logs (after h e) es

log_is : (s : Seen) (es : List HallEntry) → (run_seen s es).log ≡ s.log ++ logs s.state es
log_is s [] = sym (append-nil s.log)
log_is s (e ∷ es) = log_is (seen_after s e) es ∙ append_assoc s.log (notices s.state e ∷ []) (logs (after s.state e) es)

logs_more : (h : Record) (before later : List HallEntry) → logs h (before ++ later) ≡ logs h before ++ logs (run_record h before) later
logs_more h [] later = refl
logs_more h (e ∷ es) later = ap (λ ks. notices h e ∷ ks) (logs_more (after h e) es later)

length_logs : (h : Record) (es : List HallEntry) → length (logs h es) ≡ length es
length_logs h [] = refl
length_logs h (e ∷ es) = ap suc (length_logs (after h e) es)

pulled_is : (conn : ℕ) (h : Record) (es : List HallEntry) → pulled conn (logs h es) ≡ view conn h es
pulled_is conn h [] = refl
pulled_is conn h (e ∷ es) = ap (λ ms. sent (message conn h e) ++ ms) (pulled_is conn (after h e) es)

log_past : (h : Record) (before later : List HallEntry) → drop (length before) (run_seen (seen_opened h) (before ++ later)).log ≡ logs (run_record h before) later
log_past h before later =
    ap (drop (length before)) (log_is (seen_opened h) (before ++ later) ∙ logs_more h before later)
    ∙ ap (λ n. drop n (logs h before ++ logs (run_record h before) later)) (sym (length_logs h before))
    ∙ drop-append_seam (logs h before) (logs (run_record h before) later)

pub length_past : (h : Record) (es : List HallEntry) → length (run_seen (seen_opened h) es).log ≡ length es
length_past h es = ap length (log_is (seen_opened h) es) ∙ length_logs h es

pub pulls_view : PullsView
pulls_view conn h before later = record {
  messages = ap (pulled conn) (log_past h before later) ∙ pulled_is conn (run_record h before) later;
  end = λ i. record { conn = conn; at = length_past h (before ++ later) i };
}

-- ---- as it was before the last entries

-- the log, without what the later entries told
pub log_before : (h : Record) (es more : List HallEntry) → (before_last (length more) (run_seen (seen_opened h) (es ++ more))).log ≡ (run_seen (seen_opened h) es).log
log_before h es more =
    let whole : (run_seen (seen_opened h) (es ++ more)).log ≡ logs h es ++ logs (run_record h es) more = log_is (seen_opened h) (es ++ more) ∙ logs_more h es more in
    let front : length (logs h es) ≡ length (run_seen (seen_opened h) (es ++ more)).log - length more = omega (arith, length_past h (es ++ more), length_logs h es, length-append es more) in
    ap (take (length (run_seen (seen_opened h) (es ++ more)).log - length more)) whole
    ∙ take_at (logs h es) (logs (run_record h es) more) (length (run_seen (seen_opened h) (es ++ more)).log - length more) front
    ∙ sym (log_is (seen_opened h) es)

pub pulled_before : (h : Record) (es more : List HallEntry) (c : Cursor) → pulled_past c (before_last (length more) (run_seen (seen_opened h) (es ++ more))) ≡ pulled_past c (run_seen (seen_opened h) es)
pulled_before h es more c = ap (λ (log : List (List Notice)). pulled c.conn (drop c.at log)) (log_before h es more)

pub cursor_before : (h : Record) (es more : List HallEntry) (c : Cursor) → cursor_past c (before_last (length more) (run_seen (seen_opened h) (es ++ more))) ≡ cursor_past c (run_seen (seen_opened h) es)
cursor_before h es more c = ap (λ (log : List (List Notice)). record { conn = c.conn; at = length log }) (log_before h es more)
