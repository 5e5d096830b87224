-- The settings that a document names.
use Rattle.std.specs.Prelude.{◌≡◌, ⊤, ℕ, suc, pos, Bool, not, ◌&&◌, List, [], ◌∷◌, ◌++◌, codes, Option, None, Some, Result, Ok, Err, nat_le, nat_eq, if◌then◌else◌}
use Rattle.std.specs.Option.{option_and_then}
use Rattle.std.specs.List.{list_all}
use Rattle.toml.specs.Data.{Data, string, integer, array, table, Items, no_items, item, Members, no_members, member, get_member}
use Rattle.wire_values.specs.Names.{is_group_name}
use Rattle.udp_net.specs.declared.error.SettingsError.{SettingsError}
use Rattle.udp_net.specs.declared.error.SettingsError.TheVariants.{Config, Memory}
use Rattle.udp_net.specs.declared.node_ports.NodePort.{NodePort}
use Rattle.udp_net.specs.declared.node_ports.TheConstants.{MOST_NODES, MOST_SILENT}

-- the name of the group, the rounds of silence, the nodes and their ports
pub record SettingsModel : Type 0 where
  pub group : List ℕ
  pub silent : ℕ
  pub nodes : List NodePort

-- how many keys a table has, and how many values a list
abbrev pub key_count : Members → ℕ
key_count no_members = 0
key_count (member k d rest) = suc (key_count rest)

abbrev pub item_count : Items → ℕ
item_count no_items = 0
item_count (item d rest) = suc (item_count rest)

-- a number from 1 to a highest one
abbrev pub number_of : ℕ → Data → Option ℕ
number_of highest (integer (pos n)) = if nat_le 1 n && nat_le n highest then Some n else None
number_of highest d = None

abbrev pub number_at : List ℕ → ℕ → Members → Option ℕ
number_at key highest t = option_and_then (number_of highest) (get_member key t)

-- the name of a group
abbrev pub group_of : Data → Option (List ℕ)
group_of (string s) = if is_group_name s then Some s else None
group_of d = None

-- a node: a table of its number and its port
abbrev pub node_of : Data → Option NodePort
node_of (table t) =
    if nat_eq (key_count t) 2
    then option_and_then (λ n. option_and_then (λ p. Some (record { node = n; port = p })) (number_at (codes "port") 65535 t)) (number_at (codes "number") 65535 t)
    else None
node_of d = None

-- no other has its number or its port
abbrev pub is_new : NodePort → List NodePort → Bool
is_new n others = list_all (λ o. not (nat_eq o.node n.node) && not (nat_eq o.port n.port)) others

-- the nodes of a list, behind others: each differs from all before it
abbrev pub nodes_behind : List NodePort → Items → Option (List NodePort)
nodes_behind others no_items = Some others
nodes_behind others (item d rest) = option_and_then (λ n. if is_new n others then nodes_behind (others ++ n ∷ []) rest else None) (node_of d)

-- 1 to `MOST_NODES` values
abbrev pub may_be_nodes : Items → Bool
may_be_nodes list = nat_le 1 (item_count list) && nat_le (item_count list) MOST_NODES

abbrev pub nodes_of : Data → Option (List NodePort)
nodes_of (array list) = if may_be_nodes list then nodes_behind [] list else None
nodes_of d = None

-- a document of a group, a number of rounds and nodes, and of no other key
abbrev pub settings_in : Members → Option SettingsModel
settings_in t =
    if nat_eq (key_count t) 3
    then option_and_then (λ g. option_and_then (λ s. option_and_then (λ n. Some (record { group = g; silent = s; nodes = n }))
    (option_and_then nodes_of (get_member (codes "node") t))) (number_at (codes "silent") MOST_SILENT t)) (option_and_then group_of (get_member (codes "group") t))
    else None

-- what was read is what is there; 50 where nothing is, or 7
abbrev pub Reads : {A B : Type 0} → (A → B) → Result A SettingsError → Option B → Type 0
Reads view (Ok x) there = there ≡ Some (view x)
Reads view (Err Config) there = there ≡ None
Reads view (Err Memory) there = ⊤

-- the port of a node, if it is listed
abbrev pub port_of : ℕ → List NodePort → Option ℕ
port_of node [] = None
port_of node (n ∷ rest) = if nat_eq n.node node then Some n.port else port_of node rest
