-- How far the run of a drill has come, and its summary.
use Rattle.std.proofs.Common.{◌≡◌, ◌≤◌, ℕ, List, [], ◌∷◌, ◌++◌, length, Result, Ok, Err, IfOk, refl, sym, ap, ◌∙◌, subst, arith, append_assoc}
use Rattle.std.specs.Str.Lines.{lines}
use Rattle.std.proofs.lemmas.List.{append-nil}
use Rattle.sha2.specs.Sha256.{sha256}
use Rattle.replay_script.specs.declared.item.Item.{Item}
use Rattle.ps_dex.specs.declared.item.Tables.{Tables}
use Rattle.rules_config.specs.declared.settings.Settings.{Settings}
use Rattle.replay_script.specs.declared.script.ScriptEnd.{ScriptEnd}
use Rattle.replay_script.specs.declared.script.ScriptEnd.TheVariants.{Bad}
use Rattle.replay_script.specs.declared.script.ScriptKind.{ScriptKind}
use Rattle.replay_script.specs.Ends.{IsNoScript}
use Rattle.replay_script.specs.Scripts.{Seen, IsScript, AreItems, start, next}
use Rattle.replay_state.specs.declared.transcript.Counts.{Counts as EntryCounts}
use Rattle.replay_state.specs.Setup.{Setup}
use Rattle.replay_state.specs.Entries.{entries}
use Rattle.replay_state.specs.Counts.{refused}
use Rattle.replay_state.specs.Transcript.{output}
use Rattle.replay_state.specs.Ledgers.{Sheet, blank}
use Rattle.replay_state.specs.Tables.{Desk, fresh, item_text, item_after, text_from, item_ledger, ledger_from}
use Rattle.replay_state.proofs.TextLemmas.{output_is}
use Rattle.replay_state.proofs.LedgerLemmas.{counts_is}
use Rattle.replay_drill.specs.declared.tally.Tally.{Tally}
use Rattle.replay_drill.specs.declared.counter.Counter.{Counter}
use Rattle.replay_drill.specs.Messages.{messages_in}
use Rattle.replay_drill.specs.Plain.{HasPlainNames, HasPlainFormats}
use Rattle.replay_drill.specs.Drills.{drill_text}
use Rattle.replay_drill.proofs.GrammarLemmas.{drill_is_script}
use Rattle.replay_drill.specs.Tallies.{Tallies, Counts}
use Rattle.ps_replay.specs.declared.drill.Run.{Run}
use Rattle.ps_replay.specs.Outcomes.{symbols_of}
use Rattle.ps_replay.specs.Drills.{summary_lines, summary_of}
use Rattle.ps_replay.specs.Runs.{SummarizesRun, HasRun}

-- ---- line by line

pub record Ran (old new : Tally) (counter : Counter) (whole : List ℕ) (s : Desk) (rest : List Item) : Type 0 where
  pub front : List ℕ
  pub tallies : (text : List ℕ) → Tallies old text → Tallies new (text ++ front)
  pub counts : Counts counter front
  pub parts : whole ≡ front ++ text_from s rest

pub Ran-more : (old mid new : Tally) (counter after : Counter) (whole : List ℕ) (s : Desk) (i : Item) (rest : List Item) → Ran old mid counter whole s (i ∷ rest) → ((text : List ℕ) → Tallies mid text → Tallies new (text ++ item_text s i)) → ((text : List ℕ) → Counts counter text → Counts after (text ++ item_text s i)) → Ran old new after whole (item_after s i) rest
Ran-more old mid new counter after whole s i rest r tally count = record {
  front = r.front ++ item_text s i;
  tallies = λ text t. subst (Tallies new) (append_assoc text r.front (item_text s i)) (tally (text ++ r.front) (r.tallies text t));
  counts = count r.front r.counts;
  parts = r.parts ∙ sym (append_assoc r.front (item_text s i) (text_from (item_after s i) rest));
}

pub Ran-all : (old new : Tally) (counter : Counter) (kept : Sheet) (s end : Desk) (items : List Item) → Ran old new counter (text_from s items) end [] → kept ≡ ledger_from s items blank → SummarizesRun old s items (record { tally = new; counter = counter; counts = kept.counts })
Ran-all old new counter kept s end items r is =
    let whole : r.front ≡ text_from s items = sym (r.parts ∙ append-nil r.front) in
    record {
      tallies = λ text t. subst (λ (x : List ℕ). Tallies new (text ++ x)) whole (r.tallies text t);
      counter = subst (Counts counter) whole r.counts;
      counts = ap (λ (x : Sheet). x.counts) is;
    }

pub ledger_more : (s next : Desk) (i : Item) (rest : List Item) (c more all : Sheet) → next ≡ item_after s i → more ≡ item_ledger s i c → ledger_from s (i ∷ rest) c ≡ all → ledger_from next rest more ≡ all
ledger_more s next i rest c more all after made is = rw (after, made) is

-- ---- numbers

items_of_lines : (s : Seen) (ls : List (List ℕ)) (is : List Item) → AreItems s ls is → length ls ≡ length is
items_of_lines s [] [] a = refl
items_of_lines s [] (i ∷ is) a = absurd a
items_of_lines s (l ∷ ls) [] a = absurd a
items_of_lines s (l ∷ ls) (i ∷ is) a = omega (arith, items_of_lines (next s i) ls is a.2)

-- ---- what is summarized of the run of a script's lines

pub summary_by : (symbols script : List ℕ) (setup : Setup) (items : List Item) (tally : Tally) (run : Run) (summary : List ℕ) → IsScript symbols script items → Tallies tally script → SummarizesRun tally (fresh setup) items run → HasRun run (length items) summary → summary ≡ summary_of script setup items
summary_by symbols script setup items tally run summary is_script tallied ran has =
    let whole : text_from (fresh setup) items ≡ output setup items = output_is setup items in
    let all : length items ≡ length (lines script) = sym (items_of_lines (start symbols) (lines script) items is_script) in
    let made : run.counts ≡ record { entries = length (entries setup items); refused = refused setup items } = ran.counts ∙ counts_is setup items in
    has.summary_is script (output setup items) (subst (λ (x : List ℕ). Tallies run.tally (script ++ x)) whole (ran.tallies script tallied)) (subst (Counts run.counter) whole ran.counter)
    ∙ ap (λ (c : EntryCounts). summary_lines (length items) c.entries c.refused (messages_in (output setup items)) (length (script ++ output setup items)) (sha256 (script ++ output setup items))) made
    ∙ ap (λ (n : ℕ). summary_lines n (length (entries setup items)) (refused setup items) (messages_in (output setup items)) (length (script ++ output setup items)) (sha256 (script ++ output setup items))) all

pub if_known : {T E : Type 0} (bytes : T → List ℕ) (symbols script : List ℕ) (setup : Setup) (items : List Item) (tally : Tally) (run : Run) (summary : Result T E) → IsScript symbols script items → Tallies tally script → SummarizesRun tally (fresh setup) items run → IfOk summary (λ t. HasRun run (length items) (bytes t)) → IfOk summary (λ t. bytes t ≡ summary_of script setup items)
if_known bytes symbols script setup items tally run (Ok text) is_script tallied ran has = summary_by symbols script setup items tally run (bytes text) is_script tallied ran has
if_known bytes symbols script setup items tally run (Err end) is_script tallied ran has = tt

-- ---- a drill's text is a script, so that it has no fault

pub no_fault : (config : Settings) (dex : Tables) (steps : ℕ) (symbols text : List ℕ) (end : ScriptEnd) (line : ℕ) (kind : ScriptKind) → end ≡ Bad line kind → HasPlainFormats config → HasPlainNames dex → steps ≤ 4000 → symbols ≡ symbols_of config.groups → text ≡ drill_text config dex steps → IsNoScript symbols text end → ⊥
no_fault config dex steps symbols text end line kind bad formats names few symbols_are text_is none =
    let script = drill_is_script config dex steps formats names few in
    let no_items : (items : List Item) → IsScript symbols text items → ⊥ = subst (IsNoScript symbols text) bad none in
    no_items script.0 (rw (symbols_are, text_is) script.1)
