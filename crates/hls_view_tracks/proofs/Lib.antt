mod FlameLaws
