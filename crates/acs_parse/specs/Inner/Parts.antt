-- What the parts that a reader has read make.
use Rattle.acs_tree.specs.declared.routine.Form.{Form}
use Rattle.acs_tree.specs.declared.routine.Form.TheVariants as form
use Rattle.acs_tree.specs.declared.routine.WhenTest.{WhenTest}
use Rattle.acs_tree.specs.declared.routine.WhenTest.TheVariants as when_test
use Rattle.acs_tree.specs.declared.routine.When.{When, roll-When}
use Rattle.acs_parse.specs.declared.parts.FormParts.{FormParts}
use Rattle.acs_parse.specs.declared.parts.FormParts.TheVariants as form_parts
use Rattle.acs_parse.specs.declared.parts.TestParts.{TestParts}
use Rattle.acs_parse.specs.declared.parts.TestParts.TheVariants as test_parts
use Rattle.acs_parse.specs.declared.parts.WhenParts.{WhenParts}

-- the form of these parts
abbrev pub form_of_parts : FormParts → Form
form_of_parts (form_parts.If c s o) = form.If c s o
form_of_parts (form_parts.Pick r ws o) = form.Pick r ws o
form_of_parts (form_parts.Do ss) = form.Do ss

-- the test of these parts
abbrev pub test_of_parts : TestParts → WhenTest
test_of_parts (test_parts.Any os) = when_test.Any os
test_of_parts (test_parts.Holds c) = when_test.Holds c

-- the WHEN of these parts
abbrev pub when_of_parts : WhenParts → When
when_of_parts p = roll-When (record { at = p.at; test = test_of_parts p.test; body = p.body })
