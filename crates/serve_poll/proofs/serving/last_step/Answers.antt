-- What behind the last step leaves.
use Rattle.serve_poll.proofs.ServingLaws.{under_same, rest_same, not_same, under_keeps, rest_keeps}
use Rattle.serve_poll.proofs.serving.last_step.Goals as goal

pub returns-in-Ok-clause-conn : goal.returns-in-Ok-clause-conn
returns-in-Ok-clause-conn g c = under_same _ _ (g.P.Conn.Wire.seen c.args.conn.now) (g.P.Conn.Wire.seen c.watch.new.conn) c.in-Ok.ensures.conn

pub returns-in-Ok-clause-key : goal.returns-in-Ok-clause-key
returns-in-Ok-clause-key g c = λ own. under_keeps _ _ (g.P.Conn.Wire.seen c.args.conn.now) (g.P.Conn.Wire.seen c.watch.new.conn) c.in-Ok.ensures.conn own

pub returns-in-Err-clause-conn : goal.returns-in-Err-clause-conn
returns-in-Err-clause-conn g c = not_same (g.P.Conn.Wire.seen c.args.conn.now) (g.P.Conn.Wire.seen c.watch.new.conn) c.in-Err.ensures.conn

pub returns-in-Waits-clause-conn : goal.returns-in-Waits-clause-conn
returns-in-Waits-clause-conn g c = rest_same (g.P.Conn.Wire.seen c.args.conn.now) (g.P.Conn.Wire.seen c.rest.new.conn) c.rest.ensures.conn

pub returns-in-Waits-clause-key : goal.returns-in-Waits-clause-key
returns-in-Waits-clause-key g c = λ own. rest_keeps (g.P.Conn.Wire.seen c.args.conn.now) (g.P.Conn.Wire.seen c.rest.new.conn) c.rest.ensures.conn
