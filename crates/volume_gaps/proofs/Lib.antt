mod GapLaws
